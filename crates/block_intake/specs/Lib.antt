-- What `block_intake` defines.
pub mod Coded
