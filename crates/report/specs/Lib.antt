pub mod Hits
pub mod Report
pub mod Answers
pub mod Promise
pub mod Exact
pub mod Own
pub mod Steps
