-- What a reader has to believe of a session's text and of its record, in the order to read it.
pub mod Sessions
pub mod Examples
pub mod Pieces
