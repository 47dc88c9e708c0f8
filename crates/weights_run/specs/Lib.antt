pub mod Output
pub mod Stream
pub mod OutputLaws
pub mod StreamLaws
pub mod Whole
pub mod Reads
pub mod Examples
