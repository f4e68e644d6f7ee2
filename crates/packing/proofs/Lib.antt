-- What `packing` proves.
pub mod Determined
pub mod Others
pub mod Words
