pub mod Numbers
pub mod Net
pub mod FirstBad
pub mod Reading
pub mod Laws
pub mod Schedule
pub mod Output
