pub mod MarkupSteps
