pub mod Turns
pub mod Consumed
pub mod NoChoice
