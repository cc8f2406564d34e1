pub mod Cabinets
pub mod Either
pub mod Grants
pub mod Own
pub mod Replies
