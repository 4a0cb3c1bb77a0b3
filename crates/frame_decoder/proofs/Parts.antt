-- Parts of a buffer as the code takes them and as the definitions do. Assumes nothing.
use Prim.Native.Nat.{ℕ, ◌+◌, ◌-◌, ◌≤◌}
use mathlib.Core.Path.{◌≡◌, sym, ap, ◌∙◌}
use mathlib.Core.List.{List, ◌++◌, append_assoc, append-nil}
use native.Mathlib.Nat.{le_of_eq, zero-add}
use native.Mathlib.Omega.{arith}
use lib.ListN.{length, take, drop, length-drop, drop_of_length-le}
use lib.Seq.{length-take-le, take_all, take-take, drop-drop}
use Rattle.std.specs.Prelude as std
use Rattle.basis.specs.Front.{Front, whole}
use Rattle.basis.proofs.Fronts.{not_whole, refused_not_whole}
use Rattle.refusal.specs.Refusal.{Refusal}
use Rattle.types.specs.Number.{part}
use Rattle.types.specs.Write.{put}
use Rattle.types.proofs.Steady.{part_same}
use Rattle.frame.specs.Envelope.{envelope}
use Rattle.frame.specs.Paper.{paper_reading}
use Rattle.frame.specs.declared.Envelope as code
use Rattle.frame.proofs.Bounds.{within_bytes}
use Rattle.segment.specs.Header.{Form, Header, header_length}
use Rattle.segment.specs.Segment.{Segment, segment_length, behind, payload_at}
use Rattle.segment.proofs.Cases.{Payloads, payload_cut, payload_differs, payload_good, payload_case}

-- a part up to the end is the tail
pub tail_part : (d : List ℕ) (at : ℕ) → take (length d - at) (drop at d) ≡ drop at d
tail_part d at = take_all (length d - at) (drop at d) (le_of_eq (length-drop at d))

-- the free tail of a buffer, lent and come back with bytes at its front
pub tail_put : (d bs : List ℕ) (at : ℕ) {e : List ℕ} → e ≡ put (take (length d - at) (drop at d)) 0 bs → take at d ++ (e ++ drop (length d - at) (drop at d)) ≡ put d at bs
unfolding put
tail_put d bs at {e} p =
    ap (λ (l : List ℕ). take at d ++ (e ++ l)) (drop_of_length-le (drop at d) (le_of_eq (length-drop at d)))
    ∙ ap (λ (l : List ℕ). take at d ++ l) (append-nil e ∙ p ∙ ap (λ (l : List ℕ). put l 0 bs) (tail_part d at))
    ∙ ap (λ (k : ℕ). take at d ++ (bs ++ drop k (drop at d))) (zero-add (length bs))
    ∙ ap (λ (l : List ℕ). take at d ++ (bs ++ l)) (drop-drop (length bs) at d)
    ∙ sym (append_assoc (take at d) bs (drop (at + length bs) d))

-- a part that ends before n is the same of the first n
pub part_taken : (s : List ℕ) (n at k : ℕ) → at + k ≤ n → n ≤ length s → part (take n s) at k ≡ part s at k
part_taken s n at k h room =
    part_same s (take n s) at k (omega arith) (omega (arith, length-take-le n s room)) (take-take (at + k) n s h)

-- ---- a segment that is whole in the first n bytes of a buffer

whole_there : (f : Form) (s : List ℕ) (h : Header) {g : Segment} → payload_at f s h ≡ whole g → segment_length f h.payload ≤ length s
whole_there f s h {g} e = go (payload_case f s h) e
  where
    go : {r : Front Refusal Segment} → Payloads f s h r → r ≡ whole g → segment_length f h.payload ≤ length s
    go (payload_cut l) q = absurd (not_whole q)
    go (payload_differs l c) q = absurd (refused_not_whole q)
    go (payload_good l c) q = l

-- its payload stands in the buffer
pub whole_payload : (f : Form) (s : List ℕ) (n : ℕ) (h : Header) → n ≤ length s → payload_at f (take n s) h ≡ whole (behind f (take n s) h) → part (take n s) (header_length f) h.payload ≡ part s (header_length f) h.payload
whole_payload f s n h room e = part_taken s n (header_length f) h.payload (omega (arith, whole_there f (take n s) h e, length-take-le n s room)) room

-- ---- an envelope that was read

-- it ends within the bytes that it was read from
pub read_within : (s : List ℕ) {o : std.Option code.Envelope} {e : code.Envelope} → paper_reading (std.Ok o) ≡ envelope s → o ≡ std.Some e → e.size ≤ length s
read_within s said is = within_bytes s (sym said ∙ ap (λ o. paper_reading (std.Ok o)) is)
