-- What the contracts of lines as bytes speak of.
pub mod Commands
pub mod Written
pub mod Cuts
pub mod Streams
