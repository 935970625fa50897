-- Laws that the other crates' proofs cite.
pub mod Orders
pub mod Counting
pub mod Searching
pub mod Sums
pub mod Lists
pub mod Members
