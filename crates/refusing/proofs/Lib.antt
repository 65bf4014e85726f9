-- The proofs of the numbers that refuse: reading first, then the calls, and the limits of a turn.
pub mod Reading
pub mod Theorems
pub mod Limits
