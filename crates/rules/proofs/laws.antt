-- General laws: tests, lists, counts and sorts.
pub mod Tests
pub mod Cases
pub mod Lists
pub mod Members
pub mod Below
pub mod Leasts
pub mod Sorts
pub mod Numbered
pub mod Counting
pub mod Counts
pub mod Onces
pub mod Indexed
pub mod Numbers
pub mod Keys
