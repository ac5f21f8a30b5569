pub mod Words
pub mod Says
pub mod SourceSays
pub mod Limits
pub mod Seen
pub mod Build
pub mod Names
