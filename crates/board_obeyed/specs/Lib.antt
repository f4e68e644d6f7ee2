-- What `board_obeyed` defines.
pub mod Claims
