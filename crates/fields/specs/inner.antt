pub mod Decimal
pub mod Rest
