-- Lemmas of filing, by topic.
pub mod Tables
pub mod Joining
pub mod Ranking
pub mod Filed
