pub mod Odd
pub mod Sites
pub mod Universal
