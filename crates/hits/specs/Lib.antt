-- What the contracts speak of: turns that meet no F, many at once.
pub mod Hits
