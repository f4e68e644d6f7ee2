-- What `block_calls` proves.
pub mod Determined
