pub mod Computing
pub mod Gathering
pub mod KeywordLemmas
