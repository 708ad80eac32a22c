pub mod Bits
pub mod BitLaws
pub mod Words
pub mod WordLaws
pub mod Entries
pub mod ShortLists
pub mod ShortListLaws
