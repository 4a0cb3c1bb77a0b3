-- What only the contracts of functions inside this crate cite, and proofs. No public promise speaks of it: a reader of the promises need not believe it.
pub mod Inside
