-- The proofs of a run's choice.
pub mod LowestChoices
