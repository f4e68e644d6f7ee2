-- What `checker_slots` defines.
pub mod Paper
pub mod Coded
