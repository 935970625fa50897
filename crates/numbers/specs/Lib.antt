-- What the contracts of `numbers` cite.
pub mod Words
