-- What a reader has to believe of the code of a run.
pub mod Answers
