pub mod Lines
pub mod Forms
pub mod Next
pub mod LineByLine
pub mod Answers
pub mod Promise
pub mod Steps
