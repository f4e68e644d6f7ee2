-- What `held_calls` proves.
pub mod Determined
pub mod Nothing
