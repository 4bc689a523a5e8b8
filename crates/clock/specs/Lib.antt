pub mod Clock
pub mod Calendar
pub mod Lifetime
pub mod Meaning
pub mod Answers
pub mod Promise
pub mod Steps
