pub mod Counts
pub mod Even
pub mod Flipped
pub mod Functions
pub mod Kept
pub mod Stores
pub mod Terms
