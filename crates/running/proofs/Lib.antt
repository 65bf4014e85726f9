-- The proofs of the code of a run.
pub mod Stages
pub mod Recording
pub mod Running
pub mod Done
