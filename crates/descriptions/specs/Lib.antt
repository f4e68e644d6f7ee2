-- What `descriptions` defines.
pub mod Paper
pub mod Coded
pub mod Claims
