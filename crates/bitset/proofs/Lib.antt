mod Updates
mod Tallies
mod Walks
