-- What `collector` proves.
pub mod Determined
pub mod Places
pub mod Proper
pub mod Refused
pub mod Settled
pub mod Told
