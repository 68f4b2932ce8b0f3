pub mod Known
pub mod Lists
pub mod Made
pub mod Problematics
pub mod Reading
pub mod Reports
pub mod States
pub mod Written
