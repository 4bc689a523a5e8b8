pub mod Listing
pub mod Fronts
pub mod Answering
