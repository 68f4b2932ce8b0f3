pub mod Command
pub mod Values
pub mod Options
pub mod TreeCommand
pub mod Tree
pub mod Written
