-- The calls of the library as functions of numbers and bytes.
pub mod Asks
pub mod Probes
