-- What naming is, part by part, and what it changes.
pub mod NamedParts
pub mod Named
pub mod Kept
