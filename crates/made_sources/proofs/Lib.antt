pub mod Figures
pub mod Names
pub mod Tokens
pub mod Reading
pub mod Lists
pub mod Certificate
pub mod Printing
pub mod Runs
mod Samples
