mod Marks
mod Pieces
mod SpellingRows
