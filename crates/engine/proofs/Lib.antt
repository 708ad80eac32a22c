pub mod Admissions
pub mod Makings
