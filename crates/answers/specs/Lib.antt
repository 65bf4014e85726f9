-- What a reader has to believe of the numbers of the C interface: `Numbers`. Inner contracts: `Small`.
pub mod Numbers
pub mod Small
