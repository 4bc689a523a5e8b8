pub mod Filled
pub mod Pastes
pub mod Reported
pub mod NoChoice
