-- Header and trailer around what stands in an output are the segment of it. Assumes nothing.
use Prim.Native.Nat.{ℕ, ◌+◌, ◌-◌, ◌≤◌}
use mathlib.Core.Path.{◌≡◌, sym, ap, ap₂, ◌∙◌, subst}
use mathlib.Core.Bool.{Bool}
use mathlib.Core.List.{List, ◌++◌, append_assoc}
use native.Mathlib.Nat.{zero-add}
use native.Mathlib.Omega.{arith}
use lib.ListN.{length, take, drop, length-append}
use lib.Seq.{length-take-le, drop-drop, drop-append-add}
use Rattle.crc.specs.Check32.{crc32}
use Rattle.types.specs.Number.{part}
use Rattle.types.specs.Write.{put}
use Rattle.types.proofs.BigEndian.{length_part}
use Rattle.types.proofs.Put.{length_to_end, length_put, put_then}
use Rattle.types.specs.ThereAndBack.{Holds}
use Rattle.types.proofs.Holds.{holds_part, holds_put, put_same}
use Rattle.segment.specs.LittleEndian.{le_digits}
use Rattle.segment.specs.Header.{Form, header, header_length, header_bytes}
use Rattle.segment.specs.Segment.{trailer_length, trailer_bytes, segment_length, segment_bytes}
use Rattle.segment.proofs.LittleEndian.{length_le}
use Rattle.segment.proofs.HeaderLaid.{header_length_lem}

-- behind what is written, all is as it was
pub drop_put : (out : List ℕ) (at : ℕ) (a : List ℕ) (from : ℕ) → at + length a ≤ from → at + length a ≤ length out → drop from (put out at a) ≡ drop from out
unfolding put
drop_put out at a from h room =
    let f : length (take at out ++ a) ≡ at + length a = length_to_end out at a (omega arith) in
    let j : ℕ = from - (at + length a) in
    let e : at + length a + j ≡ from = omega arith in
    ap (λ (k : ℕ). drop k (put out at a)) (sym e)
    ∙ ap (λ (k : ℕ). drop (k + j) (put out at a)) (sym f)
    ∙ drop-append-add (take at out ++ a) (drop (at + length a) out) j
    ∙ drop-drop j (at + length a) out
    ∙ ap (λ (k : ℕ). drop k out) e

-- what is written over altogether leaves no trace
pub put_over : (out : List ℕ) (at : ℕ) (a b : List ℕ) → at + length a ≤ length b → at + length a ≤ length out → put (put out at a) 0 b ≡ put out 0 b
unfolding put
put_over out at a b h room =
    ap (λ (l : List ℕ). b ++ l) (drop_put out at a (0 + length b) (omega (arith, zero-add (length b))) room)

pub segment_length_lem : (f : Form) (self : Bool) (p : List ℕ) → length (segment_bytes f self p) ≡ segment_length f (length p)
unfolding segment_bytes
segment_length_lem f self p =
    let h : List ℕ = header_bytes f (header (length p) 0 self) in
    let a : length (h ++ (p ++ trailer_bytes p)) ≡ length h + length (p ++ trailer_bytes p) = length-append h (p ++ trailer_bytes p) in
    let b : length (p ++ trailer_bytes p) ≡ length p + length (trailer_bytes p) = length-append p (trailer_bytes p) in
    let c : length h ≡ header_length f = header_length_lem f (header (length p) 0 self) in
    let d : length (trailer_bytes p) ≡ trailer_length = length_le trailer_length (crc32 p) in
    omega arith

module _ (f : Form) (self : Bool) (out : List ℕ) (n : ℕ) (room : segment_length f n ≤ length out) where
  abbrev p : List ℕ
  p = part out (header_length f) n

  abbrev h : List ℕ
  h = header_bytes f (header n 0 self)

  head : length h ≡ header_length f
  head = header_length_lem f (header n 0 self)

  payload : length p ≡ n
  payload = length_part out (header_length f) n (omega arith)

  -- the payload is still there once the header is written
  pub payload_stays : {m : List ℕ} → m ≡ put out 0 h → Holds m (header_length f) p
  payload_stays {m} e =
      let same : part m (header_length f) n ≡ p =
      ap (λ (l : List ℕ). part l (header_length f) n) e
      ∙ ap (take n) (drop_put out 0 h (header_length f) (omega (arith, zero-add (length h), head)) (omega (arith, zero-add (length h), head)))
      in
      let l : length m ≡ length out = ap length e ∙ length_put out 0 h (omega (arith, zero-add (length h), head)) in
      subst (λ (x : List ℕ). Holds m (header_length f) x) same (holds_part m (header_length f) n (omega arith))

  pub closed : {k check : ℕ} {m l : List ℕ} → k ≡ header_length f → m ≡ put out 0 h → check ≡ crc32 (part out k n) → l ≡ put m (k + n) (le_digits trailer_length check)
      → l ≡ put out 0 (segment_bytes f self p)
  unfolding segment_bytes
  closed {m = m} i e c q =
      let t : length (trailer_bytes p) ≡ trailer_length = length_le trailer_length (crc32 p) in
      let hp : length (h ++ p) ≡ length h + length p = length-append h p in
      let k : 0 + header_length f ≡ header_length f = zero-add (header_length f) in
      let z : 0 + (header_length f + n) ≡ header_length f + n = zero-add (header_length f + n) in
      let two : m ≡ put out 0 (h ++ p) =
      put_then out 0 h p (header_length f) head (omega (arith, k, payload)) e (sym (ap (λ (i : ℕ). put m i p) k ∙ put_same m (header_length f) p (payload_stays e)))
      in
      put_then out 0 (h ++ p) (trailer_bytes p) (header_length f + n) (omega (arith, hp, head, payload)) (omega (arith, z, t)) two
      (q ∙ ap₂ (λ (i x : ℕ). put m i (le_digits trailer_length x)) (ap (λ (j : ℕ). j + n) i ∙ sym z) (c ∙ ap (λ (j : ℕ). crc32 (part out j n)) i))
      ∙ ap (put out 0) (append_assoc h p (trailer_bytes p) ∙ ap (λ (x : ℕ). header_bytes f (header x 0 self) ++ (p ++ trailer_bytes p)) (sym payload))

-- a payload that was just written, closed: no trace of the two steps
pub piece_laid : (f : Form) (self : Bool) (out p : List ℕ) → segment_length f (length p) ≤ length out → {m l : List ℕ} {n k : ℕ} → n ≡ length p → k ≡ header_length f
    → m ≡ put out k p → l ≡ put m 0 (segment_bytes f self (part m (header_length f) n)) → l ≡ put out 0 (segment_bytes f self p)
piece_laid f self out p room {m} {l} {n} {k} e i q r =
    let here : m ≡ put out (header_length f) p = q ∙ ap (λ (j : ℕ). put out j p) i in
    let fits : header_length f + length p ≤ length out = omega arith in
    let stands : part m (header_length f) n ≡ p =
    ap₂ (λ (x : List ℕ) (j : ℕ). part x (header_length f) j) here e ∙ (holds_put out (header_length f) p fits).is
    in
    let long : header_length f + length p ≤ length (segment_bytes f self p) = omega (arith, segment_length_lem f self p) in
    r
    ∙ ap₂ (λ (x y : List ℕ). put x 0 (segment_bytes f self y)) here stands
    ∙ put_over out (header_length f) p (segment_bytes f self p) long fits

-- the same of the front of an envelope
pub front_laid : (f : Form) (self : Bool) (out envelope m l : List ℕ) (n k : ℕ) → n ≤ length envelope → segment_length f n ≤ length out → k ≡ header_length f
    → m ≡ put out k (take n envelope) → l ≡ put m 0 (segment_bytes f self (part m (header_length f) n)) → l ≡ put out 0 (segment_bytes f self (take n envelope))
front_laid f self out envelope m l n k short room i q r =
    let e : length (take n envelope) ≡ n = length-take-le n envelope short in
    piece_laid f self out (take n envelope) (subst (λ (j : ℕ). segment_length f j ≤ length out) (sym e) room) (sym e) i q r
