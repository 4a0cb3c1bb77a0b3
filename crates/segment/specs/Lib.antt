-- What a segment is: docs/RULES.md, section 3.
pub mod LittleEndian
pub mod Header
pub mod Segment
pub mod Paper
pub mod ThereAndBack
