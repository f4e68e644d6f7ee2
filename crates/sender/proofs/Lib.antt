-- What `sender` proves.
pub mod Cases
pub mod Determined
pub mod Named
pub mod Tells
