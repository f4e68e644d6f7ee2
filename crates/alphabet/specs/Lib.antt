-- What `alphabet` defines.
pub mod Inner
pub mod Paper
