pub mod Lists
pub mod Cuts
pub mod Properties
pub mod LineCharacters
pub mod PrintedLines
pub mod Decimals
pub mod Have
pub mod AnyTexts
