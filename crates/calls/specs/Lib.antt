-- What `calls` defines.
pub mod Claims
pub mod Paper
