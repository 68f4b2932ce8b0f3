pub mod Json
pub mod Reader
pub mod Records
pub mod Written
