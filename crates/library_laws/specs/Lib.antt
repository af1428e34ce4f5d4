pub mod Bodies
pub mod Library
pub mod Leaving
