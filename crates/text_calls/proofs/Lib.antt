-- What `text_calls` proves.
pub mod Answers
pub mod Determined
