pub mod Order
pub mod Spot
pub mod View
pub mod Places
pub mod Closures
