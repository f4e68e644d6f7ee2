-- What `page_calls` proves.
pub mod Determined
pub mod Headed
