-- Demand 3 and the laws that lead to it.
pub mod Lists
pub mod Envelopes
pub mod Heads
pub mod Rest
pub mod Calls
pub mod Longer
pub mod Pieces
pub mod Segments
pub mod Legal
pub mod Sent
pub mod Turns
pub mod Demand3
pub mod Shut
pub mod WrittenDown
pub mod Determined
