-- The statement that each row holds, and the rows of the graph, which the checker computes.
pub mod GraphExampleTable
pub mod Examples
