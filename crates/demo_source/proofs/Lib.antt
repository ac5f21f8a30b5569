pub mod Draws
pub mod Texts
pub mod Lines
pub mod Lengths
pub mod Terms
pub mod Said
