-- The definitions, in the order in which they are read.
pub mod Counts
pub mod Needs
pub mod Runs
pub mod Tests
pub mod Figures
pub mod Bytes
pub mod Tallies
