pub mod Ranks
pub mod Marks
pub mod Promise
