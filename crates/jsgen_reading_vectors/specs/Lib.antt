-- Generated from tools/vectors/chosen.json; edit that and run tools/vectors/generate.
pub mod Reading
pub mod VectorsAsync
pub mod VectorsGenerators
pub mod VectorsMethods
pub mod VectorsClasses
pub mod VectorsMembers
pub mod VectorsModules
pub mod VectorsDefaults
pub mod VectorsImports
pub mod VectorsNames
pub mod VectorsChains
pub mod VectorsPatterns
pub mod VectorsPrivates
pub mod VectorsSlashes
pub mod VectorsTemplates
