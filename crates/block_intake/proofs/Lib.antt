-- What `block_intake` proves.
pub mod Answers
pub mod Determined
