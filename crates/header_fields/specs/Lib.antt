pub mod Says
pub mod Stands
pub mod Promise
