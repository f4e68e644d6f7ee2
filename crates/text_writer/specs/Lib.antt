-- What `text_writer` defines.
pub mod Coded
pub mod Inner
