-- The image: its table, Save and Restore, and the C entries on it.
pub mod Tables
pub mod Layouts
pub mod Accepts
pub mod Fits
pub mod Upgrades
pub mod Images
pub mod Offsets
pub mod Enters
