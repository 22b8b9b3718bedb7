pub mod Context
pub mod Owners
pub mod Printer
pub mod Steps
