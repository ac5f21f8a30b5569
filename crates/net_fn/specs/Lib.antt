pub mod Cofactor
pub mod Literals
pub mod Refs
pub mod Seen
pub mod Signals
pub mod Splits
