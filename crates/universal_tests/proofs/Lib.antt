pub mod Runs
pub mod AtVectors
pub mod Gates
pub mod Chains
pub mod Whole
pub mod Literals
