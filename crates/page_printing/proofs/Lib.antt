pub mod Writing
pub mod Hits
pub mod Pages
pub mod Whats
pub mod Samples
pub mod NoChoice
