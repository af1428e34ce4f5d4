pub mod Turns
pub mod Cost
pub mod Refusal
pub mod Capped
pub mod Bound
pub mod Reached
pub mod Law
pub mod Views
