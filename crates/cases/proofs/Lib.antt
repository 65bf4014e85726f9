pub mod Partners
pub mod Examples
