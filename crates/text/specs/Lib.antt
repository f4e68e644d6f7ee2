-- What `text` defines.
pub mod Paper
