-- Definitions that every crate's specs may cite.
pub mod Counting
pub mod Lists
