-- Lemmas on chains, by topic.
pub mod Depths
pub mod Knowing
