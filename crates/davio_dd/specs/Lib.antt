pub mod Diagram
pub mod Scratch
