-- What `cbcheck` proves.
pub mod Chunks
pub mod Handed
pub mod Wide
