-- The proofs of the text and of its telling.
pub mod Examples
pub mod Texts
pub mod Telling
