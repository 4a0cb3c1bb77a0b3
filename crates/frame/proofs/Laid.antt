-- The parts of an envelope, laid into an output one behind the other, are the envelope. Assumes nothing.
use Prim.Native.Nat.{ℕ, ◌+◌, ◌≤◌}
use mathlib.Core.Path.{◌≡◌, refl, sym, ap, ◌∙◌, subst}
use mathlib.Core.Bool.{true}
use mathlib.Core.List.{List, [], ◌++◌, append_assoc}
use native.Mathlib.Nat.{zero-add, add-zero}
use native.Mathlib.Omega.{arith}
use lib.Dec.{leb}
use lib.ListN.{length, length-append}
use Rattle.types.specs.Number.{digits}
use Rattle.types.specs.Answer.{got}
use Rattle.types.specs.Write.{put, Wrote, fine}
use Rattle.types.proofs.Put.{put_none, put_then, wrote_all}
use Rattle.frame.specs.Header.{Header}
use Rattle.frame.specs.Write.{Content, id_part, warnings_part, tail_bytes, header_bytes, envelope_bytes}
use Rattle.frame.proofs.Checked.{tail_length}

pub header_length_lem : (h : Header) (n : ℕ) → length (header_bytes h n) ≡ 9
unfolding header_bytes digits
header_length_lem h n = refl

pub envelope_length : (h : Header) (c : Content) → length (envelope_bytes h c) ≡ 9 + length (tail_bytes h c)
unfolding envelope_bytes
envelope_length h c = length-append (header_bytes h (length (tail_bytes h c))) (tail_bytes h c) ∙ ap (λ (k : ℕ). k + length (tail_bytes h c)) (header_length_lem h (length (tail_bytes h c)))

-- ---- a part that is there, or is not

pub part_there : (out : List ℕ) (at : ℕ) {part bs left : List ℕ} {n : ℕ} → part ≡ bs → length bs ≡ n → left ≡ put out at bs → (at + n ≡ at + length part) × (left ≡ put out at part)
part_there out at is long e = (ap (λ (k : ℕ). at + k) (sym (ap length is ∙ long)), e ∙ ap (put out at) (sym is))

pub part_none : (out : List ℕ) (at : ℕ) {part : List ℕ} → part ≡ [] → (at ≡ at + length part) × (out ≡ put out at part)
part_none out at none = (sym (ap (λ (l : List ℕ). at + length l) none ∙ add-zero at), sym (ap (put out at) none ∙ put_none out at))

-- ---- all of them

module _ (h : Header) (c : Content) where
  id : List ℕ
  id = id_part h c.id

  warnings : List ℕ
  warnings = warnings_part h c.text c.lens

  -- the next part goes where those before it end
  next : (out : List ℕ) (a b : List ℕ) (at : ℕ) → length a ≡ at → at + length b ≤ length out → {m l : List ℕ} → m ≡ put out 0 a → l ≡ put m at b → l ≡ put out 0 (a ++ b)
  next out a b at e room {m} p q =
      put_then out 0 a b at e (omega arith) p (q ∙ ap (λ (k : ℕ). put m k b) (sym (zero-add at)))

  pub laid : (out : List ℕ) {n : ℕ} → n ≡ length (tail_bytes h c) → 9 + n ≤ length out
      → {one two three four : List ℕ} {after start : ℕ}
      → one ≡ put out 0 (header_bytes h n)
      → two ≡ put one 9 (id_part h c.id)
      → after ≡ 9 + length (id_part h c.id)
      → three ≡ put two after (warnings_part h c.text c.lens)
      → start ≡ after + length (warnings_part h c.text c.lens)
      → four ≡ put three start c.body
      → four ≡ put out 0 (envelope_bytes h c)
  unfolding envelope_bytes tail_bytes id warnings
  laid out {n} is room {one} {two} {three} {four} {after} {start} e1 e2 a e3 b e4 =
      let head : List ℕ = header_bytes h n in
      let lh : length head ≡ 9 = header_length_lem h n in
      let lt : length (tail_bytes h c) ≡ length id + (length warnings + length c.body) = tail_length h c in
      let li : length (head ++ id) ≡ length head + length id = length-append head id in
      let lw : length (head ++ id ++ warnings) ≡ length (head ++ id) + length warnings = length-append (head ++ id) warnings in
      let p2 : two ≡ put out 0 (head ++ id) = next out head id 9 lh (omega arith) e1 e2 in
      let p3 : three ≡ put out 0 (head ++ id ++ warnings) = next out (head ++ id) warnings after (omega arith) (omega arith) p2 e3 in
      let p4 : four ≡ put out 0 (head ++ id ++ warnings ++ c.body) = next out (head ++ id ++ warnings) c.body start (omega arith) (omega arith) p3 e4 in
      p4
      ∙ ap (put out 0)
      (append_assoc (head ++ id) warnings c.body
      ∙ append_assoc head id (warnings ++ c.body)
      ∙ ap (λ (k : ℕ). header_bytes h k ++ (id ++ (warnings ++ c.body))) is)

-- what a writer says and leaves that writes at the front
pub wrote_front : (out bs : List ℕ) {n : ℕ} → length bs ≡ n → leb (0 + n) (length out) ≡ true → {left : List ℕ} → left ≡ put out 0 bs → Wrote fine out 0 bs (got tt n) left
wrote_front out bs {n} is h {left} e = subst (λ (k : ℕ). Wrote fine out 0 bs (got (tt {0}) k) left) (zero-add n) (wrote_all out 0 bs n is h e)
