-- Lemmas on the bound, by topic.
pub mod Bounding
