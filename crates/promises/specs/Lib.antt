-- Statements about whole logs: what calls reach, demand 3, the same with removals, what is documented, why a length is no cut, what is seen, and what a sheet tells apart.
pub mod Reached
pub mod Demand
pub mod Removals
pub mod Documented
pub mod Why
pub mod Seen
pub mod Printed
