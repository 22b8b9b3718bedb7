pub mod Annotated
pub mod Lines
pub mod Places
pub mod Seen
pub mod Sources
pub mod Store
pub mod Wordings
