-- Laws that belong to no one function.
pub mod Checked
pub mod Laid
pub mod Runs
pub mod Told
pub mod Determined
