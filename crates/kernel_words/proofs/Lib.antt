pub mod Cases
pub mod Runs
pub mod Memory
pub mod Moves
pub mod CellLaw
pub mod Scanning
pub mod Source
pub mod WordLaw
pub mod Values
pub mod Digits
pub mod NumberLaw
pub mod FindLaw
pub mod Laying
pub mod HeaderRun
pub mod HeaderLaw
pub mod HeaderList
mod Samples
