-- What `octets` proves.
pub mod Determined
