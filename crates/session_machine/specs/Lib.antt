pub mod Lines
pub mod Vocabulary
pub mod Definitions
pub mod Session
pub mod Admitted
pub mod Laws
