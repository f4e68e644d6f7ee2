-- What `checker_plans` defines.
pub mod Inner
pub mod Coded
