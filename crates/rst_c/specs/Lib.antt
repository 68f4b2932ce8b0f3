pub mod Options
pub mod Answers
pub mod Written
