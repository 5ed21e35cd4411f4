-- The definitions, in the order in which they are read.
pub mod Names
pub mod Tree
pub mod Reading
pub mod Faults
pub mod Shown
pub mod Nodes
pub mod Envelope
