mod Maps
mod LegalLines
mod WholePrograms
mod Answered
