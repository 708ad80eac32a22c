pub mod Makings
pub mod Runs
pub mod Statement
