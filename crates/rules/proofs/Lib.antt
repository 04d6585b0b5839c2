-- What follows from the rules, by what it is about.
pub mod tables
pub mod laws
pub mod orders
pub mod calls
pub mod images
pub mod third
