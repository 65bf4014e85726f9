-- What a reader has to believe of the step in bytes and of lists of step calls, in the order to read it.
pub mod Steps
pub mod Causes
pub mod Calls
pub mod Theorems
