pub mod Computing
pub mod Answering
