-- What `block_history` proves.
pub mod History
pub mod Joins
pub mod Taken
