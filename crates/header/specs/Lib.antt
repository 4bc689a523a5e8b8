pub mod Header
pub mod Reading
pub mod Writing
pub mod Answers
pub mod Promise
pub mod Parts
pub mod Samples
