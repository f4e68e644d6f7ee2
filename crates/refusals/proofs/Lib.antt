-- What `refusals` proves.
pub mod Determined
pub mod Inverse
