-- What the calls rest on: frames, walks over lists, records and choices.
pub mod Walks
pub mod Slots
pub mod Choices
pub mod Frames
