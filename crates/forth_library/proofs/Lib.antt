pub mod LibraryForm
pub mod Meaning
pub mod ReadDefinitions
pub mod Certified
pub mod Built
