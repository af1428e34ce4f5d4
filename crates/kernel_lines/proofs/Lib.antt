pub mod States
pub mod Stores
pub mod Prints
pub mod Checks
pub mod Resets
pub mod Replies
pub mod Reading
pub mod Splitting
pub mod NextWords
pub mod Lines
pub mod Interpreting
pub mod Ending
mod Samples
