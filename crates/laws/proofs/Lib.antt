-- What `laws` proves.
pub mod All
pub mod Base
pub mod Bits
pub mod Determined
pub mod Lowest
pub mod Map
pub mod Outcome
pub mod Parts
pub mod Radix
pub mod Ruled
pub mod Search
pub mod Snoc
pub mod Table
pub mod Tests
pub mod Upto
