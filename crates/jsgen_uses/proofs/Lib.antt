mod Words
mod Trees
