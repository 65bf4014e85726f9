-- The proofs of the run: lemmas first, the theorems last.
pub mod Places
pub mod Turning
pub mod Courses
pub mod Playing
pub mod Theorems
