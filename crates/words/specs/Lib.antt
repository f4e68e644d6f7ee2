-- What `words` defines.
pub mod Paper
