-- What `plan` proves.
pub mod Answers
pub mod Determined
pub mod Entries
pub mod Example
pub mod GoodPlan
pub mod Named
pub mod Plans
