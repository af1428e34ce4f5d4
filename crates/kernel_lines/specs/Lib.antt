pub mod Places
pub mod Bodies
pub mod State
pub mod Words
pub mod Laws
pub mod Interpreting
pub mod Main
