-- What the code of the answers rests on: lists and lines written member by member, how long the lines are, the clusters in pairs, and what a line shows.
pub mod Rows
pub mod Bounds
pub mod Pairs
pub mod Replies
pub mod Shown
