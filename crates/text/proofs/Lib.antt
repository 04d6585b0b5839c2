-- What follows from the rules about pieces, lines and streams, and what the functions' proofs rest on.
pub mod Pieces
pub mod Feeds
pub mod Puts
pub mod Decimals
pub mod Keeps
pub mod Asks
