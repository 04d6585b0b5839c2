-- What the next fetch rests on: a reader's first absent page, the search.
pub mod Searching
