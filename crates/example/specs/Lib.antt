-- Definitions that the contracts on lists cite.
pub mod Lists
pub mod Worked
