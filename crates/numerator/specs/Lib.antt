-- Definitions that the contracts on the numerator cite.
pub mod Tables
pub mod Refusals
pub mod Places
pub mod Cells
pub mod Settings
pub mod Joints
pub mod Finding
