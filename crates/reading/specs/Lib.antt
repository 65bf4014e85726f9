-- Inner contracts: what a reader that holds its input has reached behind each part.
pub mod Parts
