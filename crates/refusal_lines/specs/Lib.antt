-- What `refusal_lines` defines.
pub mod Paper
