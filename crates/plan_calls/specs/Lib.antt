-- What `plan_calls` defines.
pub mod Paper
pub mod Inner
