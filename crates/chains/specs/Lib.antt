-- Definitions that the contracts on chains cite.
pub mod Chains
