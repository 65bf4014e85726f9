-- What a reader has to believe of the front panel's record.
pub mod Registers
