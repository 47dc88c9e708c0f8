pub mod Ident
pub mod Order
pub mod Parts
