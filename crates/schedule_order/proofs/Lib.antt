-- What `schedule_order` proves.
pub mod Alike
pub mod Once
pub mod Placed
pub mod Ranks
pub mod Refused
pub mod Slides
pub mod Tail
