pub mod Definitions
pub mod Expanded
pub mod Expansion
pub mod Sizes
pub mod Written
