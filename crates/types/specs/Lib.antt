-- What the notations mean: docs/RULES.md, sections 5 and 7.
pub mod Answer
pub mod Number
pub mod Read
pub mod Write
pub mod Along
pub mod Paper
pub mod Notation
pub mod ThereAndBack
pub mod Steady
pub mod Private
