-- What `checker_slots` proves.
pub mod Determined
pub mod Rules
