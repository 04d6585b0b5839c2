-- What the searches rest on: the pages not present, one slot's use key, sets of slots, the seats, a file's readers by position, what a search reads.
pub mod Between
pub mod Slots
pub mod Sets
pub mod Seating
pub mod Queueing
pub mod Sighting
