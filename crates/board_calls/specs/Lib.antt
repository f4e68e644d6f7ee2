-- What `board_calls` defines.
pub mod Paper
