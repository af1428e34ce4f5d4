mod KernelItems
pub mod ReadText
pub mod FirstHere
pub mod CodeCells
pub mod FirstCells
pub mod FirstLine
pub mod Images
pub mod Drives
pub mod Names
pub mod Behind
