pub mod Network
pub mod Cores
pub mod Laws
pub mod ArrayState
