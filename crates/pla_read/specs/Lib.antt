pub mod Faults
pub mod Pla
pub mod Seen
pub mod Sound
pub mod Words
