pub mod Page
pub mod Promise
pub mod Steps
