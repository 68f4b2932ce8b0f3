pub mod Computing
pub mod CommandLemmas
pub mod TreeLemmas
pub mod OptionsLemmas
pub mod ValuesLemmas
