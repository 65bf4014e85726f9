-- What a reader has to believe of the code of a turn.
pub mod Answers
