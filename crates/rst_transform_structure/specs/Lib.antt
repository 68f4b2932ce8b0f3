pub mod Classes
pub mod LastSection
pub mod Law
pub mod Passing
pub mod Targets
pub mod Title
pub mod Transitions
pub mod Written
