-- Laws that belong to no one function.
pub mod BigEndian
pub mod Put
pub mod Cut
pub mod Holds
pub mod WrittenRead
pub mod ReadWritten
pub mod Lists
pub mod ThereAndBack
pub mod Steady
pub mod Refusing
pub mod Walking
pub mod Told
pub mod Determined
pub mod Reading
pub mod Found
