-- What `packing` defines.
pub mod Inner
