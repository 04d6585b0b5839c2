-- What the code of the lines rests on: what is kept, how a chunk is taken, and what the buffers stand for.
pub mod Kept
pub mod Taking
pub mod Stands
