-- What `arguments` defines.
pub mod Inner
pub mod Paper
