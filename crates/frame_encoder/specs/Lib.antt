-- What the segment writer does: docs/RULES.md, section 8.
pub mod Writer
pub mod Runs
pub mod Paper
