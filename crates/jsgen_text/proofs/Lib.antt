pub mod AsciiTexts
pub mod Characters
pub mod Directives
pub mod Machine
pub mod RawTexts
pub mod Shortest
pub mod Tags
