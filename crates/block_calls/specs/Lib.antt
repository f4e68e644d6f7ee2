-- What `block_calls` defines.
pub mod Paper
