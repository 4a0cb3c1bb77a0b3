-- What an answer means tells its cases apart, so that the answer itself follows from a promise about its meaning. Assumes nothing.
use Prim.Native.Nat.{ℕ}
use mathlib.Core.Path.{◌≡◌, refl, ap}
use mathlib.Core.Option.{Option, none, some}
use Rattle.basis.proofs.Determined.{Tells}
use Rattle.refusal.specs.declared.Refusal.{Refusal}
use Rattle.refusal.proofs.Numbers.{case_of, case_of_paper}
use Rattle.types.specs.Answer.{Answer, got, refused}
use Rattle.types.specs.Read.{Place}
use Rattle.types.specs.Write.{fine, against}
use Rattle.std.specs.Prelude as std
use Rattle.types.specs.Paper.{place_of, paper_option, paper_read, paper_part, paper_bytes, paper_strings, paper_walked, paper_number, paper_writable, paper_written}
use Rattle.types.specs.declared.Place as code
use Rattle.types.specs.declared.Walk.{Walk}
use Rattle.types.specs.declared.Walked.{Walked}

abbrev pub code_place : Place → code.Place
code_place p = record { start = p.start; len = p.len }

abbrev pub walk_of : ℕ → ℕ → Walk
walk_of left at = record { left = left; at = at }

-- the answer that has this meaning
abbrev back_from : {A B : Type 0} → (B → A) → Answer B → std.Result (A × ℕ) Refusal
back_from back (got v next) = std.Ok (back v, next)
back_from back (refused why) = std.Err (case_of why)

-- where a value's meaning tells it, an answer's does
pub read_told : {A B : Type 0} {meaning : A → B} → Tells meaning → Tells (paper_read meaning)
read_told t = record { back = back_from t.back; is = elim [ std.Ok r ↦ ap (λ v. std.Ok (v, r.1)) (t.is r.0) | std.Err e ↦ ap std.Err (case_of_paper e) ] }

option_told : {A B : Type 0} {meaning : A → B} → Tells meaning → Tells (paper_option meaning)
option_told t = record { back = elim [ none ↦ std.None | some x ↦ std.Some (t.back x) ]; is = elim [ std.None ↦ refl | std.Some x ↦ ap std.Some (t.is x) ] }

place_told : Tells place_of
place_told = record { back = code_place; is = λ p. refl }

pub number_told : {A : Type 0} → Tells (paper_number {A = A})
number_told = read_told (record { back = λ x. x; is = λ x. refl })

pub part_told : Tells paper_part
part_told = read_told place_told

pub bytes_told : Tells paper_bytes
bytes_told = read_told (option_told place_told)

pub strings_told : Tells paper_strings
strings_told = read_told (record { back = λ l. walk_of l.left l.at; is = λ w. refl })

abbrev walked_back : Answer (Option (Place × ℕ)) → std.Result Walked Refusal
walked_back (got (some t) next) = std.Ok (Walked.Text (code_place t.0) (walk_of t.1 next))
walked_back (got none next) = std.Ok (Walked.End next)
walked_back (refused why) = std.Err (case_of why)

walked_is : (r : std.Result Walked Refusal) → walked_back (paper_walked r) ≡ r
walked_is (std.Ok (Walked.Text p w)) = refl
walked_is (std.Ok (Walked.End next)) = refl
walked_is (std.Err e) = ap std.Err (case_of_paper e)

pub walked_told : Tells paper_walked
walked_told = record { back = walked_back; is = walked_is }

pub writable_told : Tells paper_writable
writable_told = record { back = elim [ fine ↦ std.Ok tt | against why ↦ std.Err (case_of why) ]; is = elim [ std.Ok u ↦ refl | std.Err e ↦ ap std.Err (case_of_paper e) ] }

pub written_told : Tells paper_written
written_told = record { back = elim [ got u next ↦ std.Ok next | refused why ↦ std.Err (case_of why) ]; is = elim [ std.Ok next ↦ refl | std.Err e ↦ ap std.Err (case_of_paper e) ] }
