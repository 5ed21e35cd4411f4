-- The laws and the theorems, in the order in which they build on each other.
pub mod Rows
pub mod Search
pub mod Pigeon
pub mod Pass
pub mod Issues
pub mod Places
pub mod Sound
pub mod Steps
pub mod Launches
pub mod Entry
pub mod Sums
pub mod Books
pub mod Invariant
pub mod SetUps
pub mod Theorems
pub mod Meanings
pub mod Worked
