pub mod Limits
pub mod Parts
pub mod View
