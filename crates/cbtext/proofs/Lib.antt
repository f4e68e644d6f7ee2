-- What `cbtext` proves.
pub mod Apart
pub mod Body
pub mod Characters
pub mod Chunks
pub mod Handed
pub mod Wide
