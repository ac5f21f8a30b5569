pub mod Selected
pub mod Sites
