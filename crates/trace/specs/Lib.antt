pub mod Records
pub mod Text
pub mod inner
