-- What `calls_obeyed` proves.
pub mod Called
pub mod Example
pub mod Judging
