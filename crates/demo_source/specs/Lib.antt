pub mod Demo
pub mod Rows
pub mod Says
