-- Inner contracts: the names that stand in a list, counted in a table.
pub mod Tables
