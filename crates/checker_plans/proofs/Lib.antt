-- What `checker_plans` proves.
pub mod Answers
pub mod Determined
