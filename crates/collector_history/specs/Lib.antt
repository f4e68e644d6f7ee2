-- What `collector_history` states.
pub mod Claims
