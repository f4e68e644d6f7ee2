-- What `text` proves.
pub mod Cases
pub mod Septets
pub mod Shown
pub mod Trim
