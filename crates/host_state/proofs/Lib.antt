mod Examples
mod Stacks
mod Cells
mod Times
mod Entries
mod Preservation
mod Images
