-- The histories that calls reach, what observation means there, and the first observer.
pub mod Reached
pub mod Observation
pub mod First
