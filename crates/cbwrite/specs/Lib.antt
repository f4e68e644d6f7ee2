-- What `cbwrite` defines.
pub mod Inner
pub mod Paper
