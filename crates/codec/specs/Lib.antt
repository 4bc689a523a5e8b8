pub mod Kind
pub mod Codec
pub mod Law
pub mod Promise
