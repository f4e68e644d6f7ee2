-- What `words` proves.
pub mod Determined
pub mod Few
