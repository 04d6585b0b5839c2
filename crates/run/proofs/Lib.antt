-- What Run rests on: its reply, and legs, of turns passed at once too.
pub mod Replies
pub mod Passings
