-- The proofs of a plan applied to a list: which elements have names, then the list from each element to the next.
pub mod Suiting
pub mod Edited
pub mod Turns
