pub mod Notes
pub mod Arrivals
pub mod Starts
pub mod OpenCalls
