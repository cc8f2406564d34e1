pub mod View
pub mod Head
pub mod Steps
pub mod Formed
pub mod Distinct
