-- The definitions, in the order in which they are read.
pub mod Parts
pub mod Ends
pub mod Checks
pub mod Turns
