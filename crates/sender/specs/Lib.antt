-- What `sender` defines.
pub mod Paper
pub mod Coded
pub mod Claims
pub mod Inner
