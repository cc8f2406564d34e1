pub mod Arrays
pub mod Blocks
pub mod Leaves
pub mod Loads
pub mod TreeRules
pub mod Undoing
