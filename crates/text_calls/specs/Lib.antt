-- What `text_calls` defines.
pub mod Paper
