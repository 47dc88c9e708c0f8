pub mod Naming
pub mod Calls
pub mod Numbers
pub mod Located
pub mod Parts
pub mod Loops
