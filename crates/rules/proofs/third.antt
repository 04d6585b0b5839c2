-- The third statement: the schedule theorem, the run as a schedule, the claim and its witness, and that it needs the 1989 rule.
pub mod Belady
pub mod Scan
pub mod Bridge
pub mod Waits
pub mod Moves
pub mod Turns
pub mod Optimal
pub mod Claim
pub mod Witness
pub mod Rules
