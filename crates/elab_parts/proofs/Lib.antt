pub mod Nodes
pub mod Operands
pub mod ValueRows
pub mod Patch
pub mod ArgumentLists
pub mod Branches
pub mod CallRows
pub mod PlacedRows
