-- Lemmas on the numerator, by topic.
pub mod Adding
pub mod Meeting
pub mod Weighing
pub mod Relatives
pub mod Placing
pub mod Lines
pub mod Stepping
pub mod Rows
pub mod Ranks
pub mod Taking
pub mod Peaks
