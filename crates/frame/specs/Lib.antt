-- What an envelope means: docs/RULES.md, sections 4 and 7.
pub mod Header
pub mod Envelope
pub mod Write
pub mod Paper
pub mod Along
pub mod ThereAndBack
pub mod Private
