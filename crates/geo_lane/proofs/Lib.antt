mod Keeps
mod Orders
mod Moments
mod Sounds
