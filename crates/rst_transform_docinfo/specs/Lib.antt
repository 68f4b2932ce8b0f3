pub mod Authors
pub mod Bibliography
pub mod Docinfo
pub mod Fields
pub mod Gathered
pub mod Keywords
pub mod Written
