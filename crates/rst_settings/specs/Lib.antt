pub mod Parts
pub mod Profile
pub mod Threshold
