-- What the contracts of this crate speak of besides the rules.
pub mod Files
pub mod Held
pub mod Positions
