pub mod Contents
pub mod Entries
pub mod Outline
pub mod Title
pub mod Written
