-- Inner contracts: the search in bytes, in the order to read them.
pub mod Lists
pub mod Asking
pub mod Found
