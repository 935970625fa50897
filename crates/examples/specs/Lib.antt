-- The table of the starred examples.
pub mod Examples
