pub mod Refusals
pub mod Promise
