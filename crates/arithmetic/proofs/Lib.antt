pub mod Assignments
pub mod GateKinds
pub mod NetLaws
pub mod NetValues
pub mod RingLaws
pub mod Verdicts
