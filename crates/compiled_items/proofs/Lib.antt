pub mod Agreement
pub mod Standing
