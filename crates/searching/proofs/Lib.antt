-- The proofs of the search in bytes.
pub mod Lists
pub mod Arenas
pub mod Answers
pub mod Walks
pub mod Found
pub mod Partners
