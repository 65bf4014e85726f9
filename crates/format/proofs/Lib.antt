-- The proofs of processes and actions in bytes: lemmas first, the theorems last.
pub mod ActionKinds
pub mod Actions
pub mod Spellable
pub mod Laws
pub mod Spelled
pub mod InScope
pub mod Readback
pub mod Theorems
