-- What `checker` proves.
pub mod Answers
pub mod Comparing
pub mod Determined
pub mod Named
pub mod Telling
