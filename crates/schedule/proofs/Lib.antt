-- What `schedule` proves.
pub mod Answers
pub mod Header
pub mod News
pub mod Order
pub mod Places
pub mod Repeats
pub mod Determined
