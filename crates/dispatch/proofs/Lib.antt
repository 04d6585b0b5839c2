-- What the code of the dispatch rests on: the letters with the number of their fields.
pub mod Letters
