-- What the page to give up rests on: a page's rank by a pass over the readers before it, the search for the highest, the page that goes first.
pub mod Sweeps
pub mod Searching
pub mod Firsts
