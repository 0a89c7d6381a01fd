pub mod FirstTokens
pub mod LongestExpression
pub mod Theorems
pub mod inner
