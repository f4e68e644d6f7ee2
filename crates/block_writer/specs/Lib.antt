-- What `block_writer` defines.
pub mod Coded
pub mod Paper
