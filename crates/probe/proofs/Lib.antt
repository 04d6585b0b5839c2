-- What the proofs of this crate rest on.
pub mod Numbers
pub mod Rows
