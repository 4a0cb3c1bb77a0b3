-- A part of a list that is moved to its front, element by element. Assumes nothing.
use Prim.Native.Nat.{ℕ, suc, ◌+◌, ◌≤◌, ◌<◌}
use mathlib.Core.Path.{◌≡◌, sym, ap, ◌∙◌}
use mathlib.Core.List.{List, ◌++◌}
use native.Mathlib.Nat.{add_comm, zero-add}
use native.Mathlib.Numerals.{add-one}
use native.Mathlib.Omega.{arith}
use lib.ListN.{length, take, drop, get_or, set, length-drop}
use lib.Seq.{length-take-le, drop-cons, set_at, append_snoc, take-suc, get_or-append-add, get_or-drop}
use Rattle.types.specs.Number.{part}
use Rattle.types.specs.Write.{put}
use Rattle.types.proofs.BigEndian.{length_part}
use Rattle.types.proofs.Holds.{holds_part, put_same}
use Rattle.frame_decoder.specs.Settle.{moved_down}

-- i of the elements from at on stand at the front
abbrev pub moved : List ℕ → ℕ → ℕ → List ℕ
moved d at i = take i (drop at d) ++ drop i d

-- the element that comes next is still the one that stood there at the start
pub moved_read : (d : List ℕ) (at i : ℕ) → at + i < length d → get_or (moved d at i) (at + i) 0 ≡ get_or (drop at d) i 0
moved_read d at i h =
    let e : length (take i (drop at d)) ≡ i = length-take-le i (drop at d) (omega (arith, length-drop at d)) in
    ap (λ (k : ℕ). get_or (moved d at i) k 0) (add_comm at i ∙ ap (λ (k : ℕ). k + at) (sym e))
    ∙ get_or-append-add (take i (drop at d)) (drop i d) at 0
    ∙ get_or-drop i d at 0
    ∙ ap (λ (k : ℕ). get_or d k 0) (add_comm i at)
    ∙ sym (get_or-drop at d i 0)

pub moved_next : (d : List ℕ) (at i : ℕ) → at + i < length d → set (moved d at i) i (get_or (moved d at i) (at + i) 0) ≡ moved d at (i + 1)
moved_next d at i h =
    let s : List ℕ = drop at d in
    let hs : i < length s = omega (arith, length-drop at d) in
    ap (set (moved d at i) i) (moved_read d at i h)
    ∙ ap (λ (l : List ℕ). set (take i s ++ l) i (get_or s i 0)) (drop-cons d i 0 (omega arith))
    ∙ set_at (take i s) (get_or d i 0) (drop (suc i) d) (get_or s i 0) i (length-take-le i s (omega arith))
    ∙ sym (append_snoc (take i s) (get_or s i 0) (drop (suc i) d))
    ∙ rw (add-one, take-suc s i 0)

pub moved_all : (d : List ℕ) (at n : ℕ) → at + n ≤ length d → moved d at n ≡ moved_down d at n
unfolding put
moved_all d at n h =
    ap (λ (k : ℕ). take n (drop at d) ++ drop k d) (sym (zero-add _ ∙ length_part d at n h))

-- what stands at the front already is not moved
pub moved_none : (d : List ℕ) (n : ℕ) → n ≤ length d → d ≡ moved_down d 0 n
moved_none d n h = sym (put_same d 0 (part d 0 n) (holds_part d 0 n (omega (arith, zero-add n))))
