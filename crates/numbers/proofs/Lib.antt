-- Laws of two words as one number, for this crate and for the sets of positions.
pub mod Words
