-- What `board` proves.
pub mod Cases
pub mod Deciding
pub mod Determined
pub mod Filled
pub mod Matching
