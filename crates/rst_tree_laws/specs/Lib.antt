pub mod Levels
pub mod Texts
pub mod Trees
