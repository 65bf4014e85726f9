-- Inner contracts: two actions that meet, in bytes.
pub mod Meeting
