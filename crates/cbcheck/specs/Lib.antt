-- What `cbcheck` defines.
pub mod Inner
pub mod Paper
