-- What `refusal_lines` proves.
pub mod Determined
