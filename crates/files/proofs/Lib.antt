-- What the code of the files that may give up a page rests on: where a set begins and ends, the file that leads, the files with cached pages.
pub mod Sets
pub mod Leading
pub mod Holding
