pub mod Rings
pub mod Standing
pub mod Bounds
pub mod Words
pub mod Numbers
pub mod Control
