pub mod Told
pub mod Lists
pub mod Rises
pub mod NoChoice
