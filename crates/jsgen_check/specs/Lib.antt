pub mod Verdict
pub mod Keys
pub mod Heads
