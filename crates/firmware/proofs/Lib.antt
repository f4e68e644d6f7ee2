-- What `firmware` proves.
pub mod Determined
pub mod History
pub mod Lent
