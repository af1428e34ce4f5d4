pub mod Bytes
pub mod Name
pub mod Reading
pub mod ReaderState
pub mod Number
pub mod Splitting
pub mod TokenList
pub mod NameList
