-- The proofs of what stands for an element that turns.
pub mod Turned
pub mod TurnedProcesses
pub mod TurnedElements
