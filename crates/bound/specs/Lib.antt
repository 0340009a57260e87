-- Definitions that the contract of the bound call cites.
pub mod Bounds
pub mod Laws
