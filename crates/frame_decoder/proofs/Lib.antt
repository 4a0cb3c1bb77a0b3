-- Laws that belong to no one function.
pub mod Steps
pub mod Phases
pub mod Moved
pub mod Parts
pub mod Sound
pub mod Works
pub mod Told
pub mod Determined
