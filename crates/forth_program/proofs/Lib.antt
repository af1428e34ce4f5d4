mod Examples
pub mod Views
pub mod GoViews
pub mod RunLaws
pub mod WordGrowth
pub mod StepGrowth
pub mod WordStays
pub mod StepStays
pub mod LeavesAtGo
mod Rows
mod StackVectors
mod ArithmeticVectors
mod MemoryVectors
mod ConsoleVectors
mod ProgramVectors
mod StructureVectors
mod ExtensionVectors
