-- Inner contracts: where the parts of actions and processes, and the references of every field, stand in bytes.
pub mod Layouts
pub mod Openings
