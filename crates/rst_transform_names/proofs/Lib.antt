pub mod Computing
pub mod IdLemmas
pub mod IdNumbers
pub mod NoNameMessages
pub mod QuietElements
pub mod RegisteredRoot
pub mod RegistryLemmas
