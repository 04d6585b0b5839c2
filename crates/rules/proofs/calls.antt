-- The calls: what each keeps, changes and refuses.
pub mod Valids
pub mod PageMaps
pub mod Changes
pub mod Landings
pub mod Kept
pub mod Refusals
pub mod OneRecord
