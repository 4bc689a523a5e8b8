pub mod Apart
pub mod Said
pub mod NoChoice
pub mod Named
