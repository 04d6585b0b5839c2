-- What the rules compute to: the soundings, the listing, the second table, the answers to questions, and the 1993 rule.
pub mod Soundings
pub mod Sample
pub mod Edges
pub mod Forecasts
pub mod Weightings
