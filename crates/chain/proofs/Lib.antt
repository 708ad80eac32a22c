mod Addresses
mod Lowest
mod Tasks
