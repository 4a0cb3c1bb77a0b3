-- Laws that belong to no one function.
pub mod Cases
pub mod Ends
pub mod Capped
pub mod Checked
pub mod Laid
pub mod Found
pub mod Bounds
pub mod WrittenRead
pub mod ReadWritten
pub mod Told
pub mod Determined
