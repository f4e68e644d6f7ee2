-- What `text_back` proves.
pub mod Accepted
pub mod Back
pub mod Bits
pub mod Blank
pub mod Listed
pub mod Reader
