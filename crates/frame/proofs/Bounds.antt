-- Of some bytes only those of the envelope at their front matter; cut short, it is incomplete; and the size check agrees. Assumes nothing.
use Prim.Native.Nat.{ℕ, ◌+◌, ◌-◌, ◌≤◌, ◌<◌}
use mathlib.Core.Path.{◌≡◌, refl, sym, ap, ◌∙◌, subst}
use mathlib.Core.Bool.{Bool, true, false, cond}
use mathlib.Core.List.{List, ◌++◌}
use mathlib.Core.Logic.{◌⊎◌, inl, inr}
use native.Mathlib.Decide.{dec_le}
use native.Mathlib.Nat.{lt_of_not-le, le_refl}
use native.Mathlib.Omega.{arith}
use lib.ListN.{length, take, length-append}
use lib.Seq.{take-take, take-append-le, length-take-le}
use Rattle.refusal.specs.Refusal.{Refusal, unknown_opcode, tracing_id_cut_short, refusal_number}
use Rattle.types.specs.Answer.{got, refused}
use Rattle.types.specs.Read.{strings, string_list_at}
use Rattle.types.proofs.Found.{got_refused}
use Rattle.types.proofs.Refusing.{OfTexts, list_refused}
use Rattle.frame.specs.Header.{Header, header_of, known_version, has_warnings}
use Rattle.basis.specs.Front.{Front, incomplete, refuses, whole}
use Rattle.frame.specs.Envelope.{size_of, Envelope, after_id, warnings_at, within, inside, envelope}
use Rattle.frame.proofs.Cases.{Sizes, short, negative, cut, unknown, fits, size_is, size_case, Withins, opcode_unknown, id_cut, warnings_bad, read, within_case, Sized, size_found, envelope_is}
use Rattle.frame.proofs.Ends.{warnings_end}
use Rattle.frame.proofs.Found.{front_declared, front_header, behind_declared, behind_header_lem, found}

-- ---- how long a whole envelope is

pub nine_or_more : (s : List ℕ) {e : Envelope} → envelope s ≡ whole e → 9 ≤ e.size
nine_or_more s q = let z = (found s q).sized in omega (arith, z.is)

pub within_bytes : (s : List ℕ) {e : Envelope} → envelope s ≡ whole e → e.size ≤ length s
within_bytes s q = let z = (found s q).sized in omega (arith, z.is, z.room)

-- its body ends where it ends
pub body_ends : (s : List ℕ) {e : Envelope} → envelope s ≡ whole e → e.body.start + e.body.len ≡ e.size
body_ends s {e} q =
    let f = found s q in
    let l : length (take e.size s) ≡ e.size = length-take-le e.size s (within_bytes s q) in
    let h : f.next ≤ e.size = subst (λ (n : ℕ). f.next ≤ n) l (warnings_end (take e.size s) (header_of s) (after_id (header_of s)) (subst (λ (n : ℕ). after_id (header_of s) ≤ n) (sym l) f.id) f.warnings) in
    let b : e.body.start ≡ f.next = ap (λ (x : Envelope). x.body.start) f.is in
    let c : e.body.len ≡ e.size - f.next = ap (λ (x : Envelope). x.body.len) f.is in
    omega arith

-- ---- the size check and the reading

pub size_whole : (s : List ℕ) {e : Envelope} → envelope s ≡ whole e → size_of s ≡ whole e.size
size_whole s q = (found s q).size

-- where the size check does not pass, the reading says the same
pub size_unfinished : (s : List ℕ) → size_of s ≡ incomplete → envelope s ≡ incomplete
size_unfinished s e = envelope_is s e

pub size_refused : (s : List ℕ) {why : Refusal} → size_of s ≡ refuses why → envelope s ≡ refuses why
size_refused s e = envelope_is s e

warnings_refused : (s : List ℕ) (h : Header) (at : ℕ) (why : Refusal) → warnings_at s h at ≡ refused why → OfTexts why
unfolding warnings_at
warnings_refused s h at why e = go (has_warnings h) e
  where
    go : (t : Bool) → cond t (string_list_at s at) (got (strings 0 at) at) ≡ refused why → OfTexts why
    go true e = list_refused s at why e
    go false e = absurd (got_refused (sym e))

-- where it passes, there is an envelope of that size, or one of the later refusals
pub later : (s : List ℕ) {n : ℕ} → size_of s ≡ whole n
    → ((e : Envelope) × (envelope s ≡ whole e) × (e.size ≡ n)) ⊎ ((why : Refusal) × (envelope s ≡ refuses why) × (10 ≤ refusal_number why) × (refusal_number why ≤ 13))
unfolding inside
later s {n} p = go (within_case (take n s) (header_of (take n s))) refl
  where
    go : {f : Front Refusal Envelope} → Withins (take n s) (header_of (take n s)) f → f ≡ within (take n s) (header_of (take n s))
        → ((e : Envelope) × (envelope s ≡ whole e) × (e.size ≡ n)) ⊎ ((why : Refusal) × (envelope s ≡ refuses why) × (10 ≤ refusal_number why) × (refusal_number why ≤ 13))
    go (opcode_unknown k) e = inr (unknown_opcode, envelope_is s p ∙ sym e, omega arith, omega arith)
    go (id_cut k h) e = inr (tracing_id_cut_short, envelope_is s p ∙ sym e, omega arith, omega arith)
    go (warnings_bad {why = why} k h w) e =
        let r : OfTexts why = warnings_refused (take n s) (header_of (take n s)) _ why w in
        inr (why, envelope_is s p ∙ sym e, omega (arith, r.0), omega (arith, r.1))
    go (read k h w) e =
        let z : Sized s n = size_found s n p in
        inl (_, envelope_is s p ∙ sym e, length-take-le n s (omega (arith, z.is, z.room)))

-- ---- bytes behind

pub nothing_behind : (s q : List ℕ) → (envelope s ≡ incomplete → ⊥) → envelope (s ++ q) ≡ envelope s
nothing_behind s q there = go (size_case s) refl
  where
    go : {f : Front Refusal ℕ} → Sizes s f → f ≡ size_of s → envelope (s ++ q) ≡ envelope s
    go (short h) e = absurd (there (envelope_is s (sym e)))
    go (negative h d) e =
        envelope_is (s ++ q) (size_is (s ++ q) (negative (omega (arith, length-append s q)) (behind_declared s q h ∙ d))) ∙ sym (envelope_is s (sym e))
    go (cut h d k) e = absurd (there (envelope_is s (sym e)))
    go (unknown d h v) e =
        let nine : 9 ≤ length s = omega arith in
        envelope_is (s ++ q)
        (size_is (s ++ q) (unknown (behind_declared s q nine ∙ d) (omega (arith, length-append s q)) (ap (λ (x : Header). known_version x.version) (behind_header_lem s q nine) ∙ v)))
        ∙ sym (envelope_is s (sym e))
    go (fits {n = b} d h v) e =
        let nine : 9 ≤ length s = omega arith in
        envelope_is (s ++ q)
        (size_is (s ++ q) (fits (behind_declared s q nine ∙ d) (omega (arith, length-append s q)) (ap (λ (x : Header). known_version x.version) (behind_header_lem s q nine) ∙ v)))
        ∙ ap inside (take-append-le (9 + b) s q h)
        ∙ sym (envelope_is s (sym e))

-- ---- its own bytes

module _ (s : List ℕ) {e : Envelope} (q : envelope s ≡ whole e) where
  -- they are enough
  pub alone : envelope (take e.size s) ≡ whole e
  alone =
      let f = found s q in
      let n : ℕ = e.size in
      let nine : 9 ≤ n = nine_or_more s q in
      let room : n ≤ length s = within_bytes s q in
      let l : length (take n s) ≡ n = length-take-le n s room in
      let z : Sized s n = f.sized in
      let sized : size_of (take n s) ≡ whole n =
      size_is (take n s)
      (fits (front_declared s n nine room ∙ z.declares) (omega (arith, z.is)) (ap (λ (x : Header). known_version x.version) (front_header s n nine room) ∙ z.version))
      ∙ ap whole z.is
      in
      envelope_is (take n s) sized ∙ ap inside (take-take n n s (le_refl n)) ∙ sym (envelope_is s f.size) ∙ q

  -- and none of them can be missing
  pub cut_short : (k : ℕ) → k < e.size → envelope (take k s) ≡ incomplete
  cut_short k h =
      let z : Sized s e.size = (found s q).sized in
      let room : k ≤ length s = omega (arith, within_bytes s q) in
      let l : length (take k s) ≡ k = length-take-le k s room in
      size_unfinished (take k s)
      (elim (dec_le 9 k) [
        | yes nine ↦ size_is (take k s) (cut (omega arith) (front_declared s k nine room ∙ z.declares) (omega (arith, z.is)))
        | no few ↦ size_is (take k s) (short (let m : k < 9 = lt_of_not-le few in omega arith))
      ])
