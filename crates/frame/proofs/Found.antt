-- What a whole envelope says of the bytes that it was read from; and that only its own bytes matter. Assumes nothing.
use Prim.Native.Nat.{ℕ, ◌+◌, ◌≤◌, ◌<◌}
use mathlib.Core.Path.{◌≡◌, refl, sym, ap, ◌∙◌, subst}
use mathlib.Core.Bool.{Bool, true, false}
use mathlib.Core.List.{List, [], ◌++◌}
use native.Mathlib.Omega.{arith}
use lib.ListN.{length, take, drop, get_or, length-append, take-append-drop}
use lib.Seq.{get_or-take, take-take, take-append-le, length-take-le}
use mir.Syntax.{w32}
use mir.Val.{to_z}
use Rattle.refusal.specs.Refusal.{Refusal}
use Rattle.types.specs.Answer.{got}
use Rattle.types.specs.Number.{be, part}
use Rattle.types.specs.Read.{Place, Strings, strings, natural, strings_at, string_list_at, texts_of}
use Rattle.types.proofs.Found.{got_value, list_found}
use Rattle.types.proofs.Steady.{part_same, appended, steady_string_list}
use Rattle.types.proofs.Walking.{walk_read}
use Rattle.frame.specs.Header.{header_of, known_opcode, has_warnings}
use Rattle.basis.specs.Front.{Front, incomplete, refuses, whole}
use Rattle.frame.specs.Envelope.{declared, size_of, Envelope, envelope_with, after_id, warnings_at, within, inside, envelope, warnings_in}
use Rattle.frame.specs.Along.{Walked}
use Rattle.basis.proofs.Fronts.{not_whole, refused_not_whole, whole_value}
use Rattle.frame.proofs.Cases.{Withins, opcode_unknown, id_cut, warnings_bad, read, within_case, Sized, size_found, envelope_is, warnings_are}

-- ---- nine bytes make a header

module _ (s t : List ℕ) (hs : 9 ≤ length s) (ht : 9 ≤ length t) (same : take 9 t ≡ take 9 s) where
  same_byte : (i : ℕ) → i < 9 → get_or t i 0 ≡ get_or s i 0
  same_byte i h = sym (get_or-take 9 t i 0 h) ∙ ap (λ (l : List ℕ). get_or l i 0) same ∙ get_or-take 9 s i 0 h

  same_part : (at n : ℕ) → at + n ≤ 9 → part t at n ≡ part s at n
  same_part at n h =
      part_same s t at n (omega arith) (omega arith) (sym (take-take (at + n) 9 t h) ∙ ap (take (at + n)) same ∙ take-take (at + n) 9 s h)

  pub same_declared : declared t ≡ declared s
  unfolding declared
  same_declared = ap (λ (l : List ℕ). natural (to_z w32 (be l))) (same_part 5 4 (omega arith))

  pub same_header : header_of t ≡ header_of s
  unfolding header_of
  same_header =
      simp (same_byte 0 (omega arith), same_byte 1 (omega arith), same_byte 4 (omega arith), same_part 2 2 (omega arith))

-- of the bytes of an envelope, and of these with others behind
module _ (s : List ℕ) (n : ℕ) (nine : 9 ≤ n) (room : n ≤ length s) where
  front_long : 9 ≤ length (take n s)
  front_long = omega (arith, length-take-le n s room)

  pub front_declared : declared (take n s) ≡ declared s
  front_declared = same_declared s (take n s) (omega arith) front_long (take-take 9 n s nine)

  pub front_header : header_of (take n s) ≡ header_of s
  front_header = same_header s (take n s) (omega arith) front_long (take-take 9 n s nine)

module _ (s q : List ℕ) (nine : 9 ≤ length s) where
  long : 9 ≤ length (s ++ q)
  long = let l : length (s ++ q) ≡ length s + length q = length-append s q in omega arith

  pub behind_declared : declared (s ++ q) ≡ declared s
  behind_declared = same_declared s (s ++ q) nine long (take-append-le 9 s q nine)

  pub behind_header_lem : header_of (s ++ q) ≡ header_of s
  behind_header_lem = same_header s (s ++ q) nine long (take-append-le 9 s q nine)

-- ---- what was found

pub record Found (s : List ℕ) (e : Envelope) : Type 0 where
  pub sized : Sized s e.size
  pub size : size_of s ≡ whole e.size
  pub opcode : known_opcode (header_of s).opcode ≡ true
  pub id : after_id (header_of s) ≤ e.size
  pub next : ℕ
  pub warnings : warnings_at (take e.size s) (header_of s) (after_id (header_of s)) ≡ got e.warnings next
  pub is : e ≡ envelope_with e.size (header_of s) e.warnings next

found_inside : (s : List ℕ) (n : ℕ) → Sized s n → size_of s ≡ whole n → {e : Envelope} → within (take n s) (header_of s) ≡ whole e → Found s e
found_inside s n z p {e} q = go (within_case (take n s) (header_of s)) q
  where
    l : length (take n s) ≡ n
    l = length-take-le n s (omega (arith, z.is, z.room))

    go : {f : Front Refusal Envelope} → Withins (take n s) (header_of s) f → f ≡ whole e → Found s e
    go (opcode_unknown k) q = absurd (refused_not_whole q)
    go (id_cut k h) q = absurd (refused_not_whole q)
    go (warnings_bad k h w) q = absurd (refused_not_whole q)
    go (read {ws = ws} {next = next} k h w) q =
        let is : envelope_with n (header_of s) ws next ≡ e = ap (λ (m : ℕ). envelope_with m (header_of s) ws next) (sym l) ∙ whole_value q in
        subst (λ (x : Envelope). Found s x) is
        (record { sized = z; size = p; opcode = k; id = subst (λ (m : ℕ). after_id (header_of s) ≤ m) l h; next = next; warnings = w; is = refl })

pub found : (s : List ℕ) {e : Envelope} → envelope s ≡ whole e → Found s e
unfolding inside
found s {e} q = go (size_of s) refl
  where
    go : (f : Front Refusal ℕ) → size_of s ≡ f → Found s e
    go incomplete p = absurd (not_whole (sym (envelope_is s p) ∙ q))
    go (refuses why) p = absurd (refused_not_whole (sym (envelope_is s p) ∙ q))
    go (whole n) p =
        let z : Sized s n = size_found s n p in
        found_inside s n z p
        (sym (ap (within (take n s)) (front_header s n (omega (arith, z.is)) (omega (arith, z.is, z.room)))) ∙ sym (envelope_is s p) ∙ q)

-- ---- the warnings

none_read : (s : List ℕ) (at : ℕ) → strings_at s 0 at ≡ got [] at
unfolding strings_at
none_read s at = refl

-- they are read as well with all that stands behind the envelope
pub warnings_here : (s : List ℕ) {e : Envelope} (f : Found s e) → warnings_at s (header_of s) (after_id (header_of s)) ≡ got e.warnings f.next
warnings_here s {e} f = go (has_warnings (header_of s)) refl
  where
    go : (t : Bool) → has_warnings (header_of s) ≡ t → warnings_at s (header_of s) (after_id (header_of s)) ≡ got e.warnings f.next
    go true w =
        warnings_are s (header_of s) (after_id (header_of s)) w
        ∙ ap (λ (l : List ℕ). string_list_at l (after_id (header_of s))) (sym (take-append-drop e.size s))
        ∙ appended string_list_at steady_string_list (take e.size s) (after_id (header_of s))
        (sym (warnings_are (take e.size s) (header_of s) (after_id (header_of s)) w) ∙ f.warnings) (drop e.size s)
    go false w =
        warnings_are s (header_of s) (after_id (header_of s)) w ∙ sym (warnings_are (take e.size s) (header_of s) (after_id (header_of s)) w) ∙ f.warnings

pub warnings_walk : (s : List ℕ) {e : Envelope} → envelope s ≡ whole e → Walked s e
unfolding warnings_in
warnings_walk s {e} q = go (has_warnings (header_of s)) refl
  where
    f : Found s e
    f = found s q

    walked : (ps : List Place) (end : ℕ) → strings_at s e.warnings.left e.warnings.at ≡ got ps end → Walked s e
    walked ps end r =
        let w = walk_read s e.warnings.left e.warnings.at r in
        record { places = ps; end = end; walks = w.0; many = w.1; texts = sym (ap (texts_of s) r) }

    go : (t : Bool) → has_warnings (header_of s) ≡ t → Walked s e
    go true w =
        let r = list_found s (after_id (header_of s)) (sym (warnings_are s (header_of s) (after_id (header_of s)) w) ∙ warnings_here s f) in
        walked r.1 f.next r.2
    go false w =
        let ws : strings 0 (after_id (header_of s)) ≡ e.warnings = got_value (sym (warnings_are s (header_of s) (after_id (header_of s)) w) ∙ warnings_here s f) in
        walked [] (after_id (header_of s)) (ap (λ (x : Strings). strings_at s x.left x.at) (sym ws) ∙ none_read s (after_id (header_of s)))
