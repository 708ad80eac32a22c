pub mod Deciders
pub mod Finds
pub mod Verdicts
pub mod Judged
pub mod Played
pub mod Made
pub mod Shown
