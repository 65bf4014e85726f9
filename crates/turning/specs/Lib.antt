-- Inner contracts: what stands for an element that turns, in the order to read them.
pub mod Turning
pub mod Parts
