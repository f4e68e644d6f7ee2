-- What `plan_parameters` defines.
pub mod Claims
