-- What `schedule_calls` proves.
pub mod Determined
pub mod Given
