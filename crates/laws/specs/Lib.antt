pub mod Order
pub mod Lists
pub mod Numbers
pub mod Text
pub mod Space
