-- Definitions that the contracts of platforms cite.
pub mod Tables
pub mod Holding
pub mod Refusals
pub mod Filling
pub mod Timed
