pub mod Tokens
pub mod HostCells
pub mod HostMemory
pub mod HostWords
pub mod Naming
pub mod FirstImage
pub mod Answers
pub mod Kept
