mod Ends
mod Same
mod Spaced
mod Texts
mod Words
