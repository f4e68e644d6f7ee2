-- What `text_back` states.
pub mod Claims
