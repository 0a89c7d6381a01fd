pub mod Lines
pub mod Theorems
pub mod Fitting
pub mod FittingLaws
pub mod Numbered
