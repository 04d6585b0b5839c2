-- What the functions of the map rest on: words and digits, bits put, ones counted, bits found, maps joined, runs of bits.
pub mod Words
pub mod Bits
pub mod Counts
pub mod Finds
pub mod Joins
pub mod Runs
