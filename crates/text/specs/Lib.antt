-- What the contracts of `text` cite: bytes in a buffer, numbers, and lines that arrive in pieces; Inner is for private ones alone.
pub mod Bytes
pub mod Numbers
pub mod Lines
pub mod Inner
