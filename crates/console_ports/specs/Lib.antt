pub mod DataSpace
pub mod Ports
