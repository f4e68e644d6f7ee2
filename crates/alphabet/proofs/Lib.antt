-- What `alphabet` proves.
pub mod Determined
pub mod Laws
