-- What the heads kept rest on: the numbers that stay, and the best of them.
pub mod Keeping
pub mod Besting
