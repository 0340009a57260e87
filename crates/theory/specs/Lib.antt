-- Definitions: the model.
pub mod Tasks
pub mod Paths
pub mod Listing
pub mod Laws
pub mod Inner
pub mod Platforms
