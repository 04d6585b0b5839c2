-- What the contracts of the lists speak of: packed numbers, and the keys that they are written as.
pub mod Packs
