-- What `cblist` defines.
pub mod Paper
