-- What `schedule_given` defines.
pub mod Coded
