pub mod Changes
pub mod Law
pub mod Machine
