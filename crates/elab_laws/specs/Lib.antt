pub mod Values
pub mod Theorems
pub mod Fitting
pub mod FittingLaws
pub mod Touching
pub mod TouchingLaws
