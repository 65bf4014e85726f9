-- What a reader has to believe of the worked cases, and of what the partners of a place say of its steps.
pub mod Partners
pub mod Examples
