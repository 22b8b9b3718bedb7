mod Flags
pub mod Appends
pub mod Attempts
pub mod Bangs
pub mod Classes
pub mod Commented
mod Comments
pub mod Handed
pub mod Innermost
pub mod Marked
pub mod Numbers
pub mod Operators
pub mod Owned
mod Lines
pub mod Onward
mod Patterns
mod Templates
pub mod Prefixes
pub mod Pushed
pub mod Sequence
pub mod Hashes
pub mod Texts
pub mod Turns
