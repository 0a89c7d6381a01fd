pub mod Served
pub mod LowWords
pub mod UnitNumbers
pub mod Addresses
pub mod Owned
pub mod OwnedTurns
pub mod OwnedStates
pub mod OwnRuns
