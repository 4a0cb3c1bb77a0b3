-- The definitions of reading, case by case: each case says what holds where it is met, and what holds says the case. Assumes nothing.
use Prim.Native.Nat.{ℕ, ◌+◌, ◌≤◌, ◌<◌}
use mathlib.Core.Path.{◌≡◌, refl, sym, ap, ap₂, ◌∙◌, subst}
use mathlib.Core.Bool.{Bool, true, false, cond}
use mathlib.Core.List.{List}
use borrow.Author.Tests.{lt-ltb, le-ltb, ltb-true, ltb-false}
use lib.Dec.{ltb, eqb}
use lib.ListN.{length, take}
use Rattle.basis.specs.Front.{Front, incomplete, refuses, whole}
use Rattle.crc.specs.Check32.{crc32}
use Rattle.refusal.specs.Refusal.{Refusal, header_check_differs, payload_compressed, payload_check_differs}
use Rattle.types.specs.Number.{part}
use Rattle.segment.specs.LittleEndian.{le}
use Rattle.segment.specs.Header.{Form, Header, number_length, header_length, fields_of}
use Rattle.segment.specs.Segment.{trailer_length, checked, uncompressed_only, header_at, Segment, segment, segment_length, payload_at}

-- ---- the header

-- the fields of the number at the front
abbrev pub fields_at : Form → List ℕ → Header
fields_at f s = fields_of f (le (take (number_length f) s))

pub data Headers (f : Form) (s : List ℕ) : Front Refusal Header → Type 0 where
  head_cut : length s < header_length f → Headers f s incomplete
  head_differs : header_length f ≤ length s → checked f s ≡ false → Headers f s (refuses header_check_differs)
  head_compressed : header_length f ≤ length s → checked f s ≡ true → eqb (fields_at f s).uncompressed 0 ≡ false → Headers f s (refuses payload_compressed)
  head_good : header_length f ≤ length s → checked f s ≡ true → eqb (fields_at f s).uncompressed 0 ≡ true → Headers f s (whole (fields_at f s))

module _ (f : Form) (s : List ℕ) where
  by_room : {t : Bool} → ltb (length s) (header_length f) ≡ t → header_at f s ≡ cond t incomplete (cond (checked f s) (uncompressed_only (fields_at f s)) (refuses header_check_differs))
  unfolding header_at
  by_room l = ap (λ (t : Bool). cond t incomplete (cond (checked f s) (uncompressed_only (fields_at f s)) (refuses header_check_differs))) l

  there : header_length f ≤ length s → {t : Bool} → checked f s ≡ t → header_at f s ≡ cond t (uncompressed_only (fields_at f s)) (refuses header_check_differs)
  there h c = by_room (le-ltb (length s) (header_length f) h) ∙ ap (λ (t : Bool). cond t (uncompressed_only (fields_at f s)) (refuses header_check_differs)) c

  pub header_is : {r : Front Refusal Header} → Headers f s r → header_at f s ≡ r
  header_is (head_cut h) = by_room (lt-ltb (length s) (header_length f) h)
  header_is (head_differs h c) = there h c
  header_is (head_compressed h c u) = there h c ∙ ap (λ (t : Bool). cond t (whole (fields_at f s)) (refuses payload_compressed)) u
  header_is (head_good h c u) = there h c ∙ ap (λ (t : Bool). cond t (whole (fields_at f s)) (refuses payload_compressed)) u

  pub header_case : Headers f s (header_at f s)
  header_case = by_length (ltb (length s) (header_length f)) refl
    where
      met : {r : Front Refusal Header} → Headers f s r → Headers f s (header_at f s)
      met {r} c = subst (λ (x : Front Refusal Header). Headers f s x) (sym (header_is c)) c

      by_compression : header_length f ≤ length s → checked f s ≡ true → (t : Bool) → eqb (fields_at f s).uncompressed 0 ≡ t → Headers f s (header_at f s)
      by_compression h c true u = met (head_good h c u)
      by_compression h c false u = met (head_compressed h c u)

      by_check : header_length f ≤ length s → (t : Bool) → checked f s ≡ t → Headers f s (header_at f s)
      by_check h true c = by_compression h c (eqb (fields_at f s).uncompressed 0) refl
      by_check h false c = met (head_differs h c)

      by_length : (t : Bool) → ltb (length s) (header_length f) ≡ t → Headers f s (header_at f s)
      by_length true l = met (head_cut (ltb-true (length s) (header_length f) l))
      by_length false l = by_check (ltb-false (length s) (header_length f) l) (checked f s) refl

-- ---- the payload behind it

abbrev pub payload_in : Form → List ℕ → Header → List ℕ
payload_in f s h = part s (header_length f) h.payload

abbrev pub trailed : Form → List ℕ → Header → Bool
trailed f s h = eqb (le (part s (header_length f + h.payload) trailer_length)) (crc32 (payload_in f s h))

pub data Payloads (f : Form) (s : List ℕ) (h : Header) : Front Refusal Segment → Type 0 where
  payload_cut : length s < segment_length f h.payload → Payloads f s h incomplete
  payload_differs : segment_length f h.payload ≤ length s → trailed f s h ≡ false → Payloads f s h (refuses payload_check_differs)
  payload_good : segment_length f h.payload ≤ length s → trailed f s h ≡ true → Payloads f s h (whole (segment h.self (payload_in f s h)))

module _ (f : Form) (s : List ℕ) (h : Header) where
  judged : {t u : Bool} → ltb (length s) (segment_length f h.payload) ≡ t → trailed f s h ≡ u
      → payload_at f s h ≡ cond t incomplete (cond u (whole (segment h.self (payload_in f s h))) (refuses payload_check_differs))
  unfolding payload_at
  judged l c = ap₂ (λ (t u : Bool). cond t incomplete (cond u (whole (segment h.self (payload_in f s h))) (refuses payload_check_differs))) l c

  pub payload_is : {r : Front Refusal Segment} → Payloads f s h r → payload_at f s h ≡ r
  payload_is (payload_cut l) = judged (lt-ltb (length s) (segment_length f h.payload) l) refl
  payload_is (payload_differs l c) = judged (le-ltb (length s) (segment_length f h.payload) l) c
  payload_is (payload_good l c) = judged (le-ltb (length s) (segment_length f h.payload) l) c

  pub payload_case : Payloads f s h (payload_at f s h)
  payload_case = by_length (ltb (length s) (segment_length f h.payload)) refl
    where
      met : {r : Front Refusal Segment} → Payloads f s h r → Payloads f s h (payload_at f s h)
      met {r} c = subst (λ (x : Front Refusal Segment). Payloads f s h x) (sym (payload_is c)) c

      by_check : segment_length f h.payload ≤ length s → (t : Bool) → trailed f s h ≡ t → Payloads f s h (payload_at f s h)
      by_check l true c = met (payload_good l c)
      by_check l false c = met (payload_differs l c)

      by_length : (t : Bool) → ltb (length s) (segment_length f h.payload) ≡ t → Payloads f s h (payload_at f s h)
      by_length true l = met (payload_cut (ltb-true (length s) (segment_length f h.payload) l))
      by_length false l = by_check (ltb-false (length s) (segment_length f h.payload) l) (trailed f s h) refl
