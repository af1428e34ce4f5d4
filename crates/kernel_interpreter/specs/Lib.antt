pub mod Places
pub mod Bodies
pub mod UserCells
pub mod Running
pub mod Laws
