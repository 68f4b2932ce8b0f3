pub mod Computing
pub mod Left
pub mod Looking
pub mod Sequence
pub mod TransformFinishing
