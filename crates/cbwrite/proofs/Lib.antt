-- What `cbwrite` proves.
pub mod Composed
pub mod Typed
