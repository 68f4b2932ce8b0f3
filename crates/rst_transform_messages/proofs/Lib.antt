pub mod Computing
pub mod Listing
pub mod Showing
