-- Laws of bytes, numbers and lines in text, for this crate and its callers.
pub mod Before
pub mod Placing
pub mod Reading
pub mod Spelling
pub mod ReadBack
pub mod Pieces
pub mod Joined
