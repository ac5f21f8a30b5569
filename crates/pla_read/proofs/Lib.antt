pub mod Defaults
mod Examples
pub mod Steps
pub mod Whole
