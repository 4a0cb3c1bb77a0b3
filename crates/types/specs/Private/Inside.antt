-- What only the contracts of functions inside this crate cite, and proofs. No public promise speaks of it: a reader of the promises need not believe it.
-- What the types inside the crate mean. Assumes nothing.
use Rattle.std.specs.Prelude.{ℕ, List}
use Rattle.std.specs.Prelude as std
use Rattle.std.proofs.Math.Option.{Option}
use Rattle.refusal.specs.Refusal.{paper_refusal}
use Rattle.refusal.specs.declared.Refusal as why
use Rattle.types.specs.Answer.{Answer, got, refused, and_then}
use Rattle.types.specs.Read.{Place}
use Rattle.types.specs.Paper.{paper_option, paper_read}

-- a count that is an [int]
abbrev pub paper_count : std.Result (std.Option ℕ × ℕ) why.Refusal → Answer (Option ℕ)
paper_count = paper_read (paper_option (λ n. n))

-- the end of some strings
abbrev pub paper_end : std.Result ℕ why.Refusal → Answer Unit
paper_end (std.Ok next) = got tt next
paper_end (std.Err e) = refused (paper_refusal e)

-- of some strings, only where the last of them ends
abbrev pub end_of : Answer (List Place) → Answer Unit
end_of strings = and_then strings (λ ps next. got tt next)
