mod Fields
mod Making
mod Tracing
