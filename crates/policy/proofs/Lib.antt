-- The theorems, in the order in which they build on one another.
pub mod Counts
pub mod Bounds
pub mod Reached
pub mod Tests
pub mod Exact
pub mod Figures
pub mod Sizes
pub mod Vectors
pub mod Bytes
pub mod Tables
pub mod Gathers
pub mod Slips
pub mod Ways
pub mod Verdicts
