-- What the contracts of `clocks` cite, in document 01's order: sizes and covers, ids, frontiers, versions.
pub mod Refusals
pub mod Vectors
pub mod Ids
pub mod Frontiers
pub mod Versions
