-- What the contracts of the heads kept speak of.
pub mod Heads
