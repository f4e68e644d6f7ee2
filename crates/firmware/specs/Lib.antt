-- What `firmware` defines.
pub mod Paper
pub mod Claims
