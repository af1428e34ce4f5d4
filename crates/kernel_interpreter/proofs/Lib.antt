pub mod Returning
pub mod Changes
pub mod UserCellLaw
pub mod RunLaw
pub mod Choices
pub mod WordLaw
