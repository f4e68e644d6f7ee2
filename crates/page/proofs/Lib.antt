-- What `page` proves.
pub mod Determined
pub mod HeaderBack
pub mod Received
pub mod Sameness
