-- What `text_writer` proves.
pub mod Adding
pub mod Determined
pub mod Foreign
