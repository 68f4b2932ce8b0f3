pub mod Computing
pub mod Changes
mod Plain
pub mod PlainNodes
pub mod PrintedParts
mod PrintedAttributeParts
pub mod Attributes
pub mod EachNode
pub mod FirstLine
pub mod Fitting
pub mod Sending
pub mod Overlaid
pub mod Pages
pub mod EachLine
pub mod KeyOrder
pub mod Walks
pub mod Folds
pub mod Rewrites
pub mod FitsLaw
