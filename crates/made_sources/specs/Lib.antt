pub mod MadeSource
pub mod MadeProgram
pub mod Laws
