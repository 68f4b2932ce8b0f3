pub mod Computing
pub mod Listing
pub mod Holding
pub mod Orders
