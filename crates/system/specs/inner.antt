pub mod QuietTurns
pub mod Runs
pub mod Seats
