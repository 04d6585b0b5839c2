-- What the parts of Save and Restore do, for their contracts.
pub mod Bytes
pub mod Tests
