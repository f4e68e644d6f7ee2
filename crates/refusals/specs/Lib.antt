-- What `refusals` defines.
pub mod Number
