-- What `cblist` proves.
pub mod Chunks
pub mod Wide
