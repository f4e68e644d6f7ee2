-- What `plan_parameters` proves.
pub mod AsRead
pub mod Cases
