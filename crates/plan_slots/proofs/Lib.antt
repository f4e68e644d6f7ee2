-- What `plan_slots` proves.
pub mod Determined
pub mod Lowest
pub mod Marks
pub mod Said
pub mod Slots
