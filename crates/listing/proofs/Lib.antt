-- Laws of commands and answers in text, for this crate and its callers.
pub mod Wording
pub mod Entries
pub mod Laying
pub mod Shown
pub mod Said
pub mod SaidLines
pub mod Telling
pub mod HeadsLaws
