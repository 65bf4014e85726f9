-- What a reader has to believe of a session: its text and what its calls promise of it, passed on from `telling`, and that the pieces are that text.
pub use Rattle.telling.specs.Sessions
pub use Rattle.telling.specs.Examples
pub use Rattle.telling.specs.Pieces
pub mod Theorems
