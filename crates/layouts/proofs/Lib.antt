-- The proofs of where parts stand.
pub mod Layouts
pub mod Laying
pub mod Openings
