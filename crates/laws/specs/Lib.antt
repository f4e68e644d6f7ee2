-- What `laws` defines.
pub mod Determined
pub mod Radix
pub mod Ruled
pub mod Search
pub mod Table
pub mod Upto
