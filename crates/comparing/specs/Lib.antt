-- What a reader has to believe of the comparison of stored cases.
pub mod Comparisons
