-- What `block_history` states.
pub mod Claims
