pub mod Esop
pub mod Kept
pub mod Links
pub mod Order
pub mod Rewriting
pub mod Search
pub mod Settled
