pub mod Numbers
pub mod Determined
