-- What a reader has to believe of processes and actions in bytes, in the order to read it.
pub mod Kinds
pub mod Spelling
pub mod Spellable
pub mod Reading
pub mod Answers
pub mod Theorems
