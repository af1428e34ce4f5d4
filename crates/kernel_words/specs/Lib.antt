pub mod Places
pub mod Bodies
pub mod Running
pub mod Memory
pub mod Headers
pub mod Laws
