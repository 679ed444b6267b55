mod Drawn
mod Short
