-- Laws of the bytes, of the parts of an image, and of the tests that Restore makes; the functions' proofs stand below their modules.
pub mod Puts
pub mod Gets
pub mod Saves
pub mod Fills
pub mod States
pub mod Checks
pub mod Slots
pub mod Clears
pub mod MapTests
pub mod Restores
pub mod Upgrades
