-- What `checker_truth` proves.
pub mod Accepted
pub mod Judged
pub mod TrueAt
