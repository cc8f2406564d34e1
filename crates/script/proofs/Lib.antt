pub mod Splitting
pub mod Values
mod Digits
