-- What the rows rest on: the lent list so far, and a row that is looked up.
pub mod Filled
pub mod Looked
