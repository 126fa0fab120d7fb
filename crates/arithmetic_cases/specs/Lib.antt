pub mod Twisted
pub mod TwistedLaws
