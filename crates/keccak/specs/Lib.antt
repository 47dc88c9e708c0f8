pub mod Fips202
pub mod Lanes
pub mod Each
pub mod Strings
pub mod Bit
pub mod Link
