-- What `page_calls` defines.
pub mod Paper
