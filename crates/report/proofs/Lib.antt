pub mod Spans
pub mod Found
pub mod Stages
pub mod Kept
pub mod Exact
pub mod Own
pub mod NoChoice
pub mod Given
