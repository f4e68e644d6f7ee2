-- What `text_reader` proves.
pub mod Determined
pub mod Made
pub mod Nexts
