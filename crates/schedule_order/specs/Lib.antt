-- What `schedule_order` states.
pub mod Claims
