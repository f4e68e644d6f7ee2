-- What `held_calls` defines.
pub mod Paper
