-- What the calls read, write and leave, and that a store that is not bad stays so.
pub mod Entering
pub mod Walk
pub mod Begun
pub mod Kept
pub mod Children
pub mod Changes
pub mod Served
