-- What `files` defines.
pub mod Inner
pub mod Paper
