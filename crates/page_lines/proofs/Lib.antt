pub mod Room
pub mod Sizes
pub mod Hits
pub mod NoChoice
