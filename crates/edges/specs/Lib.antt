-- What `edges` states.
pub mod Claims
