-- What a reader has to believe of elements that are read, in the order to read it.
pub mod Reading
pub mod Answers
