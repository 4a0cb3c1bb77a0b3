-- Laws of `put`, which writes some bytes over a part of a list, and of what a writer says and leaves. Assumes nothing.
use Prim.Native.Nat.{ℕ, zero, suc, ◌+◌, ◌-◌, ◌/◌, ◌%◌, ◌≤◌, ◌<◌}
use mathlib.Core.Path.{◌≡◌, refl, sym, ap, ap₂, ◌∙◌, subst}
use mathlib.Core.Bool.{Bool, true, false}
use mathlib.Core.List.{List, [], ◌∷◌, ◌++◌, append_assoc, append-nil}
use native.Mathlib.Omega.{arith}
use native.Mathlib.Numerals.{sub-one}
use native.Mathlib.Nat.{add_assoc, not-suc-le-zero, add-zero}
use lib.Dec.{leb}
use lib.ListN.{length, take, drop, set, length-append, length-drop, take-append-drop}
use lib.Seq.{length-take-le, take_at, drop_at, drop-append-add, drop-drop, take-set-le, set_split, append_snoc, take-length, paste}
use Rattle.refusal.specs.Refusal.{Refusal, output_too_short}
use Rattle.types.specs.Answer.{Answer, got, refused}
use Rattle.types.specs.Number.{digits}
use Rattle.types.specs.Write.{put, counted, Check, fine, against, demand, Wrote}
use Rattle.types.proofs.BigEndian.{length_digits}

pub put_none : (out : List ℕ) (at : ℕ) → put out at [] ≡ out
unfolding put
put_none out at =
    ap (λ (k : ℕ). take at out ++ [] ++ drop k out) (add-zero at)
    ∙ ap (λ (l : List ℕ). l ++ drop at out) (append-nil (take at out))
    ∙ take-append-drop at out

module _ (out : List ℕ) (at : ℕ) (a : List ℕ) where
  -- what stands before the end of what was written
  pub length_to_end : at ≤ length out → length (take at out ++ a) ≡ at + length a
  length_to_end h = length-append (take at out) a ∙ ap (λ (k : ℕ). k + length a) (length-take-le at out h)

  pub length_put : at + length a ≤ length out → length (put out at a) ≡ length out
  unfolding put
  length_put h =
      let h' : at ≤ length out = omega arith in
      simp (length-append, length-drop, length-take-le at out) (omega arith)

  -- one after the other
  pub put_put : (b : List ℕ) → at + length a + length b ≤ length out → put (put out at a) (at + length a) b ≡ put out at (a ++ b)
  unfolding put
  put_put b h =
      let h' : at ≤ length out = omega arith in
      let f : length (take at out ++ a) ≡ at + length a = length_to_end h' in
      let t : take (at + length a) (put out at a) ≡ take at out ++ a = take_at (take at out ++ a) (drop (at + length a) out) (at + length a) f in
      let d : drop (at + length a + length b) (put out at a) ≡ drop (at + length (a ++ b)) out =
      ap (λ (k : ℕ). drop (k + length b) (put out at a)) (sym f)
      ∙ drop-append-add (take at out ++ a) (drop (at + length a) out) (length b)
      ∙ drop-drop (length b) (at + length a) out
      ∙ ap (λ (k : ℕ). drop k out) (add_assoc at (length a) (length b) ∙ ap (λ (k : ℕ). at + k) (sym (length-append a b)))
      in
      ap₂ (λ (x y : List ℕ). x ++ b ++ y) t d ∙ ap (λ (x : List ℕ). x ++ drop (at + length (a ++ b)) out) (append_assoc (take at out) a b)

  -- the last byte first
  put_snoc : (b : ℕ) → at + length a < length out → put (set out (at + length a) b) at a ≡ put out at (a ++ (b ∷ []))
  unfolding put
  put_snoc b h =
      let i : ℕ = at + length a in
      let h' : at ≤ i = omega arith in
      let k : i ≤ length out = omega arith in
      let t : take at (set out i b) ≡ take at out = take-set-le at out i b h' in
      let d : drop i (set out i b) ≡ b ∷ drop (suc i) out =
      ap (drop i) (set_split out i b h) ∙ drop_at (take i out) (b ∷ drop (suc i) out) i (length-take-le i out k)
      in
      let e : at + length (a ++ (b ∷ [])) ≡ suc i = simp length-append (omega arith) in
      ap₂ (λ (x y : List ℕ). x ++ a ++ y) t d
      ∙ sym (append_snoc (take at out ++ a) b (drop (suc i) out))
      ∙ ap₂ (λ (x : List ℕ) (j : ℕ). x ++ drop j out) (append_assoc (take at out) a (b ∷ [])) (sym e)

-- two writes, the second where the first ends
pub put_then : (out : List ℕ) (at : ℕ) (a b : List ℕ) (k : ℕ) → length a ≡ k → at + k + length b ≤ length out
    → {m l : List ℕ} → m ≡ put out at a → l ≡ put m (at + k) b → l ≡ put out at (a ++ b)
put_then out at a b k is h p q =
    q ∙ ap₂ (λ (x : List ℕ) (j : ℕ). put x (at + j) b) p (sym is) ∙ put_put out at a b (omega arith)

-- a number's last byte first
pub put_digit : (out : List ℕ) (at n x : ℕ) → 0 < n → at + n ≤ length out
    → put (set out (at + (n - 1)) (x % 256)) at (digits (n - 1) (x / 256)) ≡ put out at (digits n x)
unfolding digits
put_digit out at zero x h k = absurd (not-suc-le-zero h)
put_digit out at (suc n) x h k =
    rw sub-one
    (subst (λ (j : ℕ). put (set out (at + j) (x % 256)) at (digits n (x / 256)) ≡ put out at (digits n (x / 256) ++ (x % 256 ∷ [])))
    (length_digits n (x / 256))
    (put_snoc out at (digits n (x / 256)) (x % 256) (omega (arith, length_digits n (x / 256)))))

-- no byte of a number is left
pub put_zero : (out : List ℕ) (at n x : ℕ) → n ≤ 0 → out ≡ put out at (digits n x)
unfolding digits
put_zero out at zero x h = sym (put_none out at)
put_zero out at (suc n) x h = absurd (not-suc-le-zero h)

-- a copy of all of a list
pub paste_all : (out : List ℕ) (at : ℕ) (s : List ℕ) → paste out at s (length s) ≡ put out at s
unfolding put
paste_all out at s = ap (λ (l : List ℕ). take at out ++ l ++ drop (at + length s) out) (take-length s)

pub length_counted : (n : ℕ) (t : List ℕ) → length (counted n t) ≡ n + length t
unfolding counted
length_counted n t = length-append (digits n (length t)) t ∙ ap (λ (k : ℕ). k + length t) (length_digits n (length t))

-- ---- what a writer says and leaves

-- what is demanded holds, or it does not
pub demanded : {t : Bool} (why : Refusal) (rest : Check) → t ≡ true → demand t why rest ≡ rest
demanded why rest e = ap (λ (t : Bool). demand t why rest) e

pub denied : {t : Bool} (why : Refusal) (rest : Check) → t ≡ false → demand t why rest ≡ against why
denied why rest e = ap (λ (t : Bool). demand t why rest) e

module _ (out : List ℕ) (at : ℕ) (bs : List ℕ) (n : ℕ) (is : length bs ≡ n) where
  -- there is room
  pub wrote_all : {left : List ℕ} → leb (at + n) (length out) ≡ true → left ≡ put out at bs → Wrote fine out at bs (got tt (at + n)) left
  wrote_all h e = record { says = simp (is, h); leaves = simp (is, h) e }

  -- there is none
  pub wrote_none : leb (at + n) (length out) ≡ false → Wrote fine out at bs (refused output_too_short) out
  wrote_none h = record { says = simp (is, h); leaves = simp (is, h) }

module _ {check : Check} {out : List ℕ} {at : ℕ} {bs : List ℕ} where
  -- the check has passed
  pub wrote_fine : {answer : Answer Unit} {left : List ℕ} → check ≡ fine → Wrote fine out at bs answer left → Wrote check out at bs answer left
  wrote_fine e w = rw e w

  -- the check has not
  pub wrote_against : {why : Refusal} → check ≡ against why → Wrote check out at bs (refused why) out
  wrote_against h = rw h (record { says = refl; leaves = refl })
