pub mod Bits
pub mod Strip
pub mod Meaning
pub mod Vote
pub mod Sent
pub mod Promise
pub mod Steps
