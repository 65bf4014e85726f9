-- What a reader has to believe of the partners of a place, in the order to read it.
pub mod Partnering
pub mod Answers
pub mod Theorems
