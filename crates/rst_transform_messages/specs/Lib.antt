pub mod Early
pub mod Filtered
pub mod Listed
pub mod Messages
pub mod MessagesIn
pub mod Reported
pub mod Written
