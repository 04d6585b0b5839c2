-- What the contracts of the lines speak of.
pub mod Sessions
