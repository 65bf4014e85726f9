-- The proofs of the search for answers: what it finds, the numbers of the answers, and the questions.
pub mod Frames
pub mod Throughout
pub mod Wants
pub mod Sound
pub mod Complete
pub mod Meetings
pub mod Numbers
pub mod Partners
pub mod Loops
pub mod Questions
