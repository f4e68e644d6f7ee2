-- What `collector_delivery` states.
pub mod Claims
