pub mod Removals
pub mod Leavers
pub mod Victims
pub mod Steps
pub mod Turns
pub mod Frames
pub mod Bound
pub mod Calls
