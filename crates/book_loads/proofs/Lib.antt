pub mod Keys
pub mod Below
pub mod Written
pub mod Laid
pub mod Loads
