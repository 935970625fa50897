-- What the contracts of `positions` cite; Inner is for private ones alone.
pub mod Bits
pub mod Members
pub mod Compacting
pub mod Inner
