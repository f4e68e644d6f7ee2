-- What `board_calls` proves.
pub mod Determined
