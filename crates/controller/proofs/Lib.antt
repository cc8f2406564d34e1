pub mod Fronts
pub mod Gaves
pub mod Readies
pub mod Asks
pub mod Nexts
pub mod Served
pub mod Supersedes
pub mod Turns
pub mod Notified
pub mod Leaving
mod Waiters
mod Obeys
mod Domains
