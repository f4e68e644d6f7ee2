-- What `delivery` proves.
pub mod Accepted
pub mod Air
pub mod Planned
pub mod ReadsBack
