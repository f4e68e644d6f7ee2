-- What `board_held` proves.
pub mod Bit
pub mod Cases
pub mod Determined
pub mod Sets
pub mod Telling
