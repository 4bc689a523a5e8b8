pub mod Lines
pub mod Promise
