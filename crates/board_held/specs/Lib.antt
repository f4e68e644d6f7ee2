-- What `board_held` defines.
pub mod Paper
pub mod Inner
pub mod Coded
