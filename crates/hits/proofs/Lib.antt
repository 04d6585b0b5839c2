-- What the turns that meet no F rest on: the law of so many turns, and one slot after the other.
pub mod Passes
pub mod Slots
