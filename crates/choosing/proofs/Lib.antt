-- The proofs of the choice.
pub mod Ambients
pub mod Choices
