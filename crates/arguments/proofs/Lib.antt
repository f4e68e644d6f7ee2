-- What `arguments` proves.
pub mod Determined
pub mod Same
