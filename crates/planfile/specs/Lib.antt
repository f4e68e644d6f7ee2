-- What `planfile` defines.
pub mod Inner
