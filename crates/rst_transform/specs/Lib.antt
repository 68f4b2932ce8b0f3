pub mod Finishing
pub mod Law
pub mod Linking
pub mod Written
