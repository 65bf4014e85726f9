-- What a reader has to believe of elements, jobs and states in bytes, in the order to read it.
pub mod Spelling
pub mod Spelled
pub mod Each
