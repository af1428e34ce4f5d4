pub mod TraceText
pub mod Trace
pub mod Turn
pub mod Leaves
