pub mod Clash
pub mod Cover
pub mod FirstClash
pub mod LeastClash
