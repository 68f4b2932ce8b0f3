pub mod Computing
pub mod JsonLemmas
pub mod NameLemmas
pub mod ReaderLemmas
pub mod RecordLemmas
