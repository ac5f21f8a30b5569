pub mod Added
pub mod Complete
pub mod Inputs
pub mod Whole
