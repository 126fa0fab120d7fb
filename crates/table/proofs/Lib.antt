pub mod Chains
pub mod Growing
pub mod Numbered
pub mod RunLaws
pub mod Searching
pub mod Soundness
