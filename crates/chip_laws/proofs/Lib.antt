pub mod Premises
pub mod Returning
pub mod Samples
