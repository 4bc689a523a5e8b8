pub mod Search
pub mod Named
pub mod Facts
pub mod NoChoice
