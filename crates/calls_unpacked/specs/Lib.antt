-- What `calls_unpacked` defines.
pub mod Claims
