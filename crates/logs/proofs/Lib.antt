-- What `logs` proves.
pub mod Chunks
pub mod Complete
pub mod Determined
pub mod Listed
pub mod Pieces
pub mod Read
pub mod Turns
