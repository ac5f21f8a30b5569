pub mod Checked
pub mod Detected
pub mod Paired
pub mod Reported
pub mod Selections
pub mod Sound
pub mod Tables
pub mod VectorsFew
