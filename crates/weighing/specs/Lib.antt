-- What a reader has to believe of the weight of a state in bytes.
pub mod Weighing
