pub mod Certified
pub mod Definitions
pub mod Linked
