-- The proofs of what bytes that spell elements and states look like, and of walks along them.
pub mod States
pub mod Tags
pub mod Spellable
pub mod Views
pub mod Actions
pub mod Searching
pub mod Processes
pub mod Openings
pub mod Each
