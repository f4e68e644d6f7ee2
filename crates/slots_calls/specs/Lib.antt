-- What `slots_calls` defines.
pub mod Inner
pub mod Paper
