-- What `collector_delivery` proves.
pub mod Air
pub mod Two
