-- What the contract of every entry speaks of.
pub mod Does
