pub mod Answers
pub mod Following
pub mod Splicing
pub mod InWords
pub mod Parts
pub mod Along
pub mod WayOut
pub mod Laws
