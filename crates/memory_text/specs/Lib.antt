pub mod MemoryText
pub mod Laws
