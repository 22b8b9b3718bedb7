mod Numbers
mod Placing
mod Reading
mod Row
