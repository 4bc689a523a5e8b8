pub mod Told
pub mod Marks
pub mod Numbers
pub mod NoChoice
