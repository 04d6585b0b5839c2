-- What the contracts of the page to give up speak of: which readers are short of a page, what the search keeps.
pub mod Searches
