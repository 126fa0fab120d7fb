pub mod Amounts
pub mod DerivedLaws
pub mod Evaluation
pub mod NetChecks
pub mod NetLaws
pub mod YesNo
pub mod Modulo
