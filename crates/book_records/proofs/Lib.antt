pub mod Within
pub mod Chunks
pub mod Second
pub mod NoChoice
