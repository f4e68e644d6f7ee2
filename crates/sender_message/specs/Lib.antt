-- What `sender_message` defines.
pub mod Paper
pub mod Coded
