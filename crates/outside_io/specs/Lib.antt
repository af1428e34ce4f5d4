pub mod Causes
pub mod Bytes
pub mod Files
pub mod Contents
pub mod Scripts
pub mod Answers
