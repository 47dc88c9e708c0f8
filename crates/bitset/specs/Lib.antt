pub mod Sets
pub mod Cases
pub mod Bit
pub mod Counts
pub mod Lists
pub mod Words
