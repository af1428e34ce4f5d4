pub mod MachineCode
pub mod Standing
pub mod Laws
pub mod WayBack
pub mod TypedWords
