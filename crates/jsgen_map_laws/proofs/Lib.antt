pub mod Names
pub mod Kept
pub mod Listed
pub mod Jobs
pub mod Rise
