-- What `schedule_calls` defines.
pub mod Paper
