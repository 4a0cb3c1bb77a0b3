-- What UTF-8 is: docs/RULES.md, 5.2.
pub mod Utf8
pub mod Scalar
pub mod Private
