-- What the contracts of the answers speak of.
pub mod Responses
