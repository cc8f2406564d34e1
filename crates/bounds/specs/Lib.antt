pub mod Weights
pub mod Bounds
