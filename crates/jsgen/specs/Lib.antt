pub mod Codegen
pub mod Context
pub mod Answer
pub mod Mapped
pub mod Licences
pub mod Commented
