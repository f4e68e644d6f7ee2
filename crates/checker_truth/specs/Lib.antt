-- What `checker_truth` defines.
pub mod Claims
