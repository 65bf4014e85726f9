-- The proofs of two actions that meet.
pub mod Joints
pub mod Actions
pub mod Joining
