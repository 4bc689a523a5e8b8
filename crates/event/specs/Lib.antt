pub mod Events
pub mod Class
pub mod Promise
pub mod Steps
