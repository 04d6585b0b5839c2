-- What the contracts of the rows speak of.
pub mod Rows
