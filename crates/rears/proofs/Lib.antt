-- What the search for a page ahead of no reader rests on.
pub mod Rearing
