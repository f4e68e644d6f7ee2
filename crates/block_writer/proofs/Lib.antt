-- What `block_writer` proves.
pub mod Determined
pub mod Write
