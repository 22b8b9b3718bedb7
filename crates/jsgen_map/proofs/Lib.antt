pub mod Counts
pub mod MarkLists
pub mod MarkLoop
pub mod NameList
pub mod Places
pub mod LineReads
pub mod Stands
pub mod TableReads
