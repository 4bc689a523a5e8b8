pub mod Packs
pub mod Keeps
pub mod Instances
pub mod NoChoice
