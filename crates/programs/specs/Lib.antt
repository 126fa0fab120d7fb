pub mod Reading
pub mod Refused
pub mod Stops
