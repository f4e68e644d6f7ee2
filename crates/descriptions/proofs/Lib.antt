-- What `descriptions` proves.
pub mod Determined
pub mod Stepping
pub mod Giving
pub mod Places
