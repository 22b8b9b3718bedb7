pub mod FormedRows
pub mod Programs
pub mod PlainPrograms
pub mod NumberKinds
pub mod NumberStates
pub mod NumberMachine
pub mod NumberRuns
pub mod Offsets
