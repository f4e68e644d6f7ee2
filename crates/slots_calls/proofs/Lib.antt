-- What `slots_calls` proves.
pub mod Determined
pub mod Packed
pub mod Slots
