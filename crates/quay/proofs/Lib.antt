-- What the program rests on.
pub mod Pumping
