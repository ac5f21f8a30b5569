pub mod Generated
pub mod Points
pub mod Selection
pub mod Tests
pub mod Undetectable
