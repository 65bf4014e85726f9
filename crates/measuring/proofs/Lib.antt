-- The proofs of measures of spelled bytes.
pub mod Depths
pub mod Measures
pub mod Contents
