pub mod Heads
pub mod Job
pub mod Tables
