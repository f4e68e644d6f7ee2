-- What `text_reader` defines.
pub mod Coded
pub mod Inner
