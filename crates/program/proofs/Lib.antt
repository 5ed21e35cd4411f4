-- The laws of reading, in the order in which they build on each other; `Laws`, `Faults`, `Nodes` and `Envelopes` hold those that others cite.
pub mod Found
pub mod Stands
pub mod Parts
pub mod Step
pub mod Laws
pub mod Faults
pub mod Shows
pub mod Ways
pub mod Nodes
pub mod Envelopes
pub mod Vectors
