pub mod Keyed
pub mod Places
pub mod RunLaws
pub mod SlotAnswers
pub mod Stored
