-- What each case of an answer means: a value and a position, or a refusal. Assumes nothing.
use Rattle.std.specs.Prelude.{ℕ}
use Rattle.std.specs.Prelude as std
use Rattle.std.proofs.Math.Option.{Option, none, some}
use Rattle.refusal.specs.Refusal.{paper_refusal}
use Rattle.refusal.specs.declared.Refusal as why
use Rattle.types.specs.Answer.{Answer, got, refused}
use Rattle.types.specs.Read.{Place, place, Strings, strings}
use Rattle.types.specs.Write.{Check, fine, against}
use Rattle.types.specs.declared.Place as code
use Rattle.types.specs.declared.Walk.{Walk}
use Rattle.types.specs.declared.Walked.{Walked}

abbrev pub place_of : code.Place → Place
place_of p = place p.start p.len

abbrev pub strings_of : Walk → Strings
strings_of w = strings w.left w.at

-- what may not be there
abbrev pub paper_option : {A B : Type 0} → (A → B) → std.Option A → Option B
paper_option meaning (std.Some x) = some (meaning x)
paper_option meaning std.None = none

-- a value and the position behind it, by what a value means
abbrev pub paper_read : {A B : Type 0} → (A → B) → std.Result (A × ℕ) why.Refusal → Answer B
paper_read meaning (std.Ok r) = got (meaning r.0) r.1
paper_read meaning (std.Err e) = refused (paper_refusal e)

-- a number means itself
abbrev pub paper_number : {A : Type 0} → std.Result (A × ℕ) why.Refusal → Answer A
paper_number = paper_read (λ x. x)

abbrev pub paper_part : std.Result (code.Place × ℕ) why.Refusal → Answer Place
paper_part = paper_read place_of

abbrev pub paper_bytes : std.Result (std.Option code.Place × ℕ) why.Refusal → Answer (Option Place)
paper_bytes = paper_read (paper_option place_of)

abbrev pub paper_strings : std.Result (Walk × ℕ) why.Refusal → Answer Strings
paper_strings = paper_read strings_of

abbrev pub paper_walked : std.Result Walked why.Refusal → Answer (Option (Place × ℕ))
paper_walked (std.Ok (Walked.Text p w)) = got (some (place_of p, w.left)) w.at
paper_walked (std.Ok (Walked.End next)) = got none next
paper_walked (std.Err e) = refused (paper_refusal e)

abbrev pub paper_writable : std.Result Unit why.Refusal → Check
paper_writable (std.Ok u) = fine
paper_writable (std.Err e) = against (paper_refusal e)

abbrev pub paper_written : std.Result ℕ why.Refusal → Answer Unit
paper_written (std.Ok next) = got tt next
paper_written (std.Err e) = refused (paper_refusal e)
