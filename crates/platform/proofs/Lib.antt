-- Lemmas on platforms, by topic.
pub mod Copying
pub mod Fresh
pub mod Ticking
pub mod Holdings
