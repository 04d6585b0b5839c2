-- What the contracts of the searches speak of: the seats of the readers, a file's readers by position, what a search reads.
pub mod Seats
pub mod Queues
pub mod Queueing
pub mod Sights
pub mod Shown
