pub mod Items
pub mod ReadSteps
pub mod TextSteps
