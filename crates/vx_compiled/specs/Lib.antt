pub mod Faithful
pub mod Compiled
pub mod CompiledWith
pub mod Sized
