-- What `lines` proves.
pub mod Behind
pub mod Determined
pub mod Numbers
pub mod Texts
