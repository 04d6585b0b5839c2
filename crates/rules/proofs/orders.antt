-- The two orders: look-aheads, ranks, heads and where they are found; the choice of the 1993 rule; what a page in fetch changes; what repeated Steals drop;
-- and the answers to questions.
pub mod LookAheads
pub mod Ranks
pub mod Distinct
pub mod Weighings
pub mod Victims
pub mod Local
pub mod Passing
pub mod Links
pub mod Candidates
pub mod Stretches
pub mod Questions
pub mod Repeats
