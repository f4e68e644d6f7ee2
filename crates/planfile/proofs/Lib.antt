-- What `planfile` proves.
pub mod Good
