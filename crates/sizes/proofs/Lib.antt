-- What `sizes` proves.
pub mod Determined
pub mod Received
