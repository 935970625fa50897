-- What the contracts of `listing` cite: words, commands, answers, the sheet and the answer to `why`. `Inner` is for the contracts of private functions alone.
pub mod Words
pub mod Commands
pub mod Laying
pub mod Answers
pub mod Sheets
pub mod Whys
pub mod Inner
