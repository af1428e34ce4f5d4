pub mod Cell
pub mod Quotients
pub mod Divisions
pub mod Bytes
pub mod Signs
pub mod Exactness
