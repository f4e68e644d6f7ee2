-- What `plan` defines.
pub mod Paper
pub mod Coded
pub mod Inner
pub mod Claims
