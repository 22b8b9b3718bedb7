mod Alone
pub mod Cases
pub mod Declarators
pub mod Misfits
pub mod Numbers
pub mod Uncooked
pub mod Programs
pub mod Steps
pub mod Verdicts
pub mod Bare
pub mod Counts
mod Specifiers
pub mod Enclosing
