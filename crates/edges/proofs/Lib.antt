-- What `edges` proves.
pub mod Cases
