-- What the contracts of the calls of a slot speak of.
pub mod Berths
pub mod Others
