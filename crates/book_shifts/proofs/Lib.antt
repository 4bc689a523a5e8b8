pub mod Moved
pub mod Fitting
pub mod NoChoice
