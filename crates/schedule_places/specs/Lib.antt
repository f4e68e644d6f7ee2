-- What `schedule_places` defines.
pub mod Coded
pub mod Inner
