pub mod Pairs
pub mod Fronts
pub mod Beginnings
pub mod Bad
pub mod Whole
pub mod Examples
