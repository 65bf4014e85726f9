-- The proofs of lists of step calls: lemmas first, the theorems and the worked cases last.
pub mod Causes
pub mod Calls
pub mod Theorems
pub mod Results
