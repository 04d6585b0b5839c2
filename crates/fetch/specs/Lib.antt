-- What the contracts of the next fetch speak of.
pub mod Soonest
