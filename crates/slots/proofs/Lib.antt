-- What the calls of a slot rest on.
pub mod Stays
