-- What the contracts of the turns speak of beside the rules: turns as their loop holds them, one turn, and a Run under way.
pub mod Places
pub mod Tallies
pub mod Runs
