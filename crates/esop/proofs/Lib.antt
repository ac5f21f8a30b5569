pub mod Lists
pub mod Placed
pub mod Places
pub mod Steps
pub mod Thirds
