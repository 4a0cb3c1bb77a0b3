pub mod Fold
pub mod Check24
pub mod Check32
pub mod Running
