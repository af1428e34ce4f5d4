pub mod Spaced
pub mod Back
pub mod Instructions
pub mod Split
pub mod ListingLines
pub mod ListingAssembly
pub mod Whole
pub mod Examples
