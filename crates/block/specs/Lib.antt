-- What `block` defines.
pub mod Paper
pub mod Place
pub mod Coded
