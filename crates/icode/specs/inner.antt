pub mod Locals
pub mod Sites
pub mod Says
pub mod Valid
