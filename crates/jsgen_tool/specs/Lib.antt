pub mod Answers
pub mod Headline
pub mod Lines
pub mod Transfer
