-- What every entry rests on.
pub mod Entering
