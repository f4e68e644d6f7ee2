-- What `calls_unpacked` proves.
pub mod Codes
pub mod Named
pub mod Told
pub mod Unpacked
