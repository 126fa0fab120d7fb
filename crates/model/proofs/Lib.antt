pub mod Bytes
pub mod Names
pub mod Spelling
pub mod Orders
pub mod Adding
