pub mod NoChoice
