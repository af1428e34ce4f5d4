pub mod Kernel
pub mod Certificate
pub mod Session
pub mod Replies
pub mod Places
pub mod Behind
pub mod MachineCode
pub mod FirstState
