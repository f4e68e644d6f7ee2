-- What `collector` defines.
pub mod Coded
pub mod Inner
pub mod Paper
