pub mod Asked
pub mod Errors
pub mod Headline
pub mod Made
pub mod Says
pub mod Searched
pub mod Sourced
pub mod Steps
