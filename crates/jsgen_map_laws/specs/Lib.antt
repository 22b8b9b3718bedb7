pub mod Printed
pub mod Law
