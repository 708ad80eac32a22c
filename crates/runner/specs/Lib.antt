pub mod Lines
pub mod Runs
pub mod Sessions
pub mod Texts
pub mod Inputs
pub mod Outputs
pub mod Law
