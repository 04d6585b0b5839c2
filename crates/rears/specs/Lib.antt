-- What the contracts of the pages ahead of no reader speak of.
pub mod Rears
