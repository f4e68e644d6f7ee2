-- What `page` defines.
pub mod Claims
pub mod Coded
pub mod Paper
