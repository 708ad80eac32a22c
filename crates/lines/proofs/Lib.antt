pub mod Decimals
pub mod Buffers
pub mod Reading
pub mod Lines
pub mod Spellings
pub mod Feeds
