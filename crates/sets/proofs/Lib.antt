-- The shelf of lemmas on masks, by topic.
pub mod Bits
pub mod Members
pub mod Lowest
pub mod Sums
pub mod Counts
pub mod Tables
pub mod Iterating
pub mod Bests
pub mod Levelling
pub mod Made
pub mod Answering
