pub mod Replies
pub mod Handed
