-- What the walks rest on: one walk page by page, and the slots one after the other.
pub mod Alongs
pub mod Slots
pub mod Words
