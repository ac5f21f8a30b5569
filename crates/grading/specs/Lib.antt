pub mod Counts
pub mod Grade
pub mod Pair
pub mod PairErrors
pub mod Parts
pub mod Table
