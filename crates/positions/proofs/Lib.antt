-- Laws of positions, for this crate and its callers. Callers cite Members, Sets and Compacting; the others serve this crate's own functions.
pub mod Members
pub mod Sets
pub mod Compacting
pub mod Bits
pub mod Words
pub mod Marks
pub mod Rounds
pub mod Made
