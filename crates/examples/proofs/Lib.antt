pub mod Paper
pub mod Known
