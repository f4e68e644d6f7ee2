-- What `plan_read` proves.
pub mod Answers
pub mod Determined
pub mod Entries
pub mod FileBack
pub mod Named
pub mod ReadGood
