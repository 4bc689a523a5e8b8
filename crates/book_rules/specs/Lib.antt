pub mod Form
pub mod Subscription
pub mod Rules
pub mod Edits
pub mod Steps
pub mod Load
pub mod Afresh
pub mod History
