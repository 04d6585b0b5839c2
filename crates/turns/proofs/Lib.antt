-- What the turns rest on: the answer of a turn, the readers and their seats, an arrival, turns one after the other, a turn as its code reads it, what it
-- leaves of the heads, its end, and the turns of a leg.
pub mod Answers
pub mod Seatings
pub mod Untouched
pub mod Arrivals
pub mod Rounds
pub mod Turnings
pub mod Keepings
pub mod Endings
pub mod Goings
