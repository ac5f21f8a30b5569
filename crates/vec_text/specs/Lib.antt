pub mod Faults
pub mod Lines
pub mod Says
pub mod Seen
pub mod Sound
pub mod VectorFile
pub mod Words
