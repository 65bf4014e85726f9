-- What a reader has to believe of what is written to a buffer, in the order to read it.
pub mod Words
pub mod Buffers
