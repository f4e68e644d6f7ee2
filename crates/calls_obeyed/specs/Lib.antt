-- What `calls_obeyed` defines.
pub mod Claims
