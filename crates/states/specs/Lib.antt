-- What a reader has to believe of jobs and states in bytes, in the order to read it.
pub mod Reading
pub mod Answers
pub mod Theorems
