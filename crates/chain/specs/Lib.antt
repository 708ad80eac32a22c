pub mod Pages
pub mod Statements
