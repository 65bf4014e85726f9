-- The proofs of plans: what they make of a list, how long it is, and when it breaks a limit.
pub mod Answers
pub mod Holders
pub mod Editing
pub mod Lengths
pub mod Plans
pub mod Rules
pub mod Edits
pub mod Fitting
