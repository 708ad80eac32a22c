pub mod Refusals
pub mod Meaning
pub mod Tags
pub mod Texts
