-- Laws that several proofs cite.
mod Fits
-- Laws of the rules.
pub mod Curvatures
pub mod Table
