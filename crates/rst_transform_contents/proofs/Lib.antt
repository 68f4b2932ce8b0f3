pub mod Computing
pub mod EntrySteps
pub mod PlacedSteps
pub mod Threading
pub mod TopicLemmas
pub mod WholeDocuments
