-- Definitions that the contracts of filing cite.
pub mod Tables
pub mod Priorities
pub mod Refusals
pub mod Filing
pub mod Bands
