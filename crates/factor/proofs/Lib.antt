pub mod Law
pub mod Meaning
pub mod Sizes
pub mod Taken
pub mod Valid
pub mod Values
