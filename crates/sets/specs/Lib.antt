-- Definitions: sets as numbers, and sets by level.
pub mod Sets
pub mod Over
pub mod Levels
