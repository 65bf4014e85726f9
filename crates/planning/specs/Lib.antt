-- Inner contracts: the plan of a step, in the order to read them.
pub mod Choices
pub mod Plans
