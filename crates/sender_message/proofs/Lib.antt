-- What `sender_message` proves.
pub mod Agree
pub mod Cases
pub mod Determined
pub mod Groups
pub mod Message
pub mod News
pub mod Padded
