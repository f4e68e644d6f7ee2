-- What `files` proves.
pub mod Determined
