-- What the code of the three lists rests on: packed numbers, their order, ranks by the table, numbers by file, the clusters and the writing.
pub mod Packing
pub mod Ranking
pub mod Weighing
pub mod Directions
pub mod Stretches
pub mod Writing
