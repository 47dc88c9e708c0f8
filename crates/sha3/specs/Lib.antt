pub mod Hash
pub mod Sponge
pub mod Link
pub mod Laws
