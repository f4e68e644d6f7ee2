-- What `lines` defines.
pub mod Inner
pub mod Paper
