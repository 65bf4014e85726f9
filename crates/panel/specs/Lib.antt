-- What a reader has to believe of one access to the front panel.
pub mod Access
