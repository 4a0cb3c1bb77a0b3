-- Laws that belong to no one function.
pub mod LittleEndian
pub mod HeaderBits
pub mod HeaderLaid
pub mod Cases
pub mod WrittenRead
pub mod ReadWritten
pub mod Told
pub mod Determined
