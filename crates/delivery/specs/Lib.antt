-- What `delivery` states.
pub mod Claims
