-- Laws of vectors, ids, frontiers and versions, for the proofs here and in the crates above.

pub mod Refusals
pub mod Ids
pub mod Vectors
pub mod Frontiers
pub mod Same
pub mod Versions
