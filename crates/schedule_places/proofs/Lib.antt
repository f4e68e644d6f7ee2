-- What `schedule_places` proves.
pub mod Bits
pub mod Steps
pub mod Finds
pub mod Placing
pub mod Known
pub mod Determined
