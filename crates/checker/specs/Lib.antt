-- What `checker` defines.
pub mod Paper
pub mod Inner
pub mod Coded
pub mod Claims
