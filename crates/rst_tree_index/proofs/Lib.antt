pub mod Marking
pub mod Visiting
pub mod Classes
pub mod Knowing
