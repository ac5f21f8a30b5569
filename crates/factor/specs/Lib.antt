pub mod Cells
pub mod Factored
pub mod Literals
pub mod Plan
pub mod Search
pub mod Seen
pub mod Shows
pub mod Sums
