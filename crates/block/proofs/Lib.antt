-- What `block` proves.
pub mod Blank
pub mod Determined
pub mod Filled
pub mod Steps
