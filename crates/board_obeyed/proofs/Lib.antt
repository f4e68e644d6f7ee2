-- What `board_obeyed` proves.
pub mod Example
pub mod Obeyed
