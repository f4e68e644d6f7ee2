-- What `schedule_given` proves.
pub mod Givens
pub mod Determined
