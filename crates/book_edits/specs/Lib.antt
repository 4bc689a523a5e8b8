pub mod Promise
pub mod Steps
