-- One call of a reader over its two lent buffers and a piece of the stream: docs/RULES.md, 6.3, 6.4 and 6.13. Assumes nothing.
use Rattle.std.specs.Prelude.{ℕ, suc, cond, List, [], ◌∷◌, length}
use Rattle.refusal.specs.Refusal.{inadmissible}
use Rattle.types.specs.Write.{put}
use Rattle.frame_decoder.specs.Reader.{Reader, pushed, Answer, more, refused, counts_of, admissible}
use Rattle.frame_decoder.specs.Settle.{Due, due, waits, Settled, settle}

-- what a call answers, how many bytes it took, and the reader and the buffers that it leaves
pub record Outcome : Type 0 where
  pub answer : Answer
  pub taken : ℕ
  pub reader : Reader
  pub segment : List ℕ
  pub reassembly : List ℕ

abbrev pub outcome : Answer → ℕ → Reader → List ℕ → List ℕ → Outcome
outcome answer taken r segment reassembly =
    record { answer = answer; taken = taken; reader = r; segment = segment; reassembly = reassembly }

-- 6.4: bytes that are taken stand behind those taken before, and all other bytes of the segment buffer stay
abbrev pub stored : Reader → List ℕ → List ℕ → List ℕ
stored r segment bytes = put segment (counts_of r).there bytes

-- ---- a call

-- an answer that is due ends the call
unfoldable pub unless_due : ℕ → List ℕ → Due → List ℕ → (Reader → Outcome) → Outcome
unless_due taken segment (due answer r) reassembly goes_on = outcome answer taken r segment reassembly
unless_due taken segment (waits r) reassembly goes_on = goes_on r

-- 6.3: up to the first answer, byte by byte; so many were taken before
unfoldable pub work : ℕ → Reader → List ℕ → List ℕ → List ℕ → Outcome
work taken r segment reassembly [] =
    let s : Settled = settle r segment reassembly in
    unless_due taken segment s.says s.reassembly (λ next. outcome more taken next segment s.reassembly)
work taken r segment reassembly (b ∷ piece) =
    let s : Settled = settle r segment reassembly in
    unless_due taken segment s.says s.reassembly
    (λ next. work (suc taken) (pushed 1 next) (stored next segment (b ∷ [])) s.reassembly piece)

-- 1 is tested first, and changes nothing
unfoldable pub call : Reader → List ℕ → List ℕ → List ℕ → Outcome
call r segment reassembly piece =
    cond (admissible r (length segment) (length reassembly))
    (work 0 r segment reassembly piece)
    (outcome (refused inadmissible) 0 r segment reassembly)
