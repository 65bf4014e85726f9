-- What a reader has to believe of the numbers that refuse the readers, each call and a turn of a run.
pub mod Refusing
