pub mod Input
pub mod Page
pub mod Promise
pub mod Own
pub mod Steps
