pub mod Job
pub mod Texts
pub mod MapText
pub mod LegalText
pub mod Built
