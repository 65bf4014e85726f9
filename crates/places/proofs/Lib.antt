-- The proofs of places in bytes: lemmas first, walks last.
pub mod Widths
pub mod Offsets
pub mod Walking
pub mod Able
pub mod Lowest
pub mod Alone
pub mod Places
