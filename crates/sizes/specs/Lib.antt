-- What `sizes` states.
pub mod Paper
