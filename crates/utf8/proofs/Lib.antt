-- Laws that belong to no one function.
pub mod Table
pub mod Scalar
pub mod Determined
