-- What a reader has to believe of the numbers of refusals.
pub mod Refusals
