pub mod Answers
pub mod Rules
pub mod Judging
pub mod Begun
pub mod Reads
