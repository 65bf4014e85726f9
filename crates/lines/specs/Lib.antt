-- What a reader has to believe of the printed lines.
pub mod Lines
pub mod Endings
