pub mod InOrder
pub mod First
pub mod Folded
pub mod Detected
pub mod Pairs
pub mod Picked
pub mod Searched
