-- The rules of the fixed-point numbers, and their laws.
pub mod Answers
pub mod Rules
pub mod Unsigned
pub mod Table
pub mod Kept
pub mod Curvatures
pub mod Weights
