pub mod Certified
pub mod Returning
