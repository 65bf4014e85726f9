-- Inner contracts: the bytes of a process in the cabinet.
pub mod Pieces
