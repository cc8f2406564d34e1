mod Naming
mod Alone
mod Own
