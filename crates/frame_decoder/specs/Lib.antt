-- What the stream reader does: docs/RULES.md, section 6.
pub mod Reader
pub mod Settle
pub mod Call
pub mod Paper
pub mod Private
