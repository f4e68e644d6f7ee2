-- What `cbtext` defines.
pub mod Claims
pub mod Inner
pub mod Paper
