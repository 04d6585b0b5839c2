-- What whoever changes a box rests on.
pub mod Kept
