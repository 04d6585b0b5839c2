-- What the proofs of this crate and of its callers rest on: tests that answer yes or no, what files and pages that pass them are, the files' weights, and
-- the counts of their cached pages.
pub mod Tests
pub mod Files
pub mod Weights
pub mod Carried
