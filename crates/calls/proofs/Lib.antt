-- What `calls` proves.
pub mod Packed
pub mod Settled
