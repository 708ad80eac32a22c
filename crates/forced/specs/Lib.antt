pub mod Play
pub mod Determined
pub mod Exactness
