pub mod Adding
pub mod Hex
pub mod Numbers
pub mod Saying
pub mod Script
pub mod Telling
pub mod Verbs
pub mod Words
