-- What `plan_calls` proves.
pub mod Answers
pub mod Determined
pub mod Filed
pub mod Planned
