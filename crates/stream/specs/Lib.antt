-- What a stream means, what a caller hears of it in pieces, and which streams are legal: docs/RULES.md, sections 6 and 10.
pub mod Meaning
pub mod Segments
pub mod Caller
pub mod Legal
pub mod Sent
pub mod Collect
pub mod Paper
pub mod Shut
pub mod Private
