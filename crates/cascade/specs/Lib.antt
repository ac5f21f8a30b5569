pub mod FirstVectors
pub mod Left
pub mod Plan
pub mod Reddy
pub mod Shows
