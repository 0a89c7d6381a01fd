pub mod LvalueRows
pub mod Updates
pub mod NamedRows
pub mod StructRows
