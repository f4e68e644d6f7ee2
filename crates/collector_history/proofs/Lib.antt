-- What `collector_history` proves.
pub mod Calls
pub mod Example
pub mod History
pub mod Laid
