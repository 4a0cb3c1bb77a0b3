-- What settling leaves of an admitted reader is admitted again, and where it waits there are bytes to wait for. Assumes nothing.
use Prim.Native.Nat.{ℕ, ◌+◌, ◌-◌, ◌%◌, ◌≤◌, ◌<◌}
use mathlib.Core.Path.{◌≡◌, refl, sym, ◌∙◌, subst}
use mathlib.Core.Bool.{Bool, true, false, cond}
use mathlib.Core.List.{List}
use native.Mathlib.Nat.{zero-add}
use native.Mathlib.Omega.{arith}
use borrow.Author.Tests.{leb-true}
use lib.Dec.{leb, eqb}
use lib.ListN.{length, take}
use lib.Seq.{length-take-le}
use Rattle.basis.specs.Front.{Front, incomplete, refuses, whole}
use Rattle.refusal.specs.Refusal.{Refusal, header_check_differs, payload_compressed, segment_too_long, payload_check_differs, unexpected_self_contained, reassembly_too_short}
use Rattle.types.specs.Number.{part}
use Rattle.types.specs.Write.{put}
use Rattle.types.proofs.BigEndian.{length_part}
use Rattle.types.proofs.Put.{length_put}
use Rattle.segment.specs.Header.{Header, header, header_length, fields_of}
use Rattle.segment.specs.Segment.{Segment, segment_length}
use Rattle.segment.proofs.Cases.{Headers, head_cut, head_differs, head_compressed, head_good, header_case, fields_at, Payloads, payload_cut, payload_differs, payload_good, payload_case}
use Rattle.segment.proofs.HeaderLaid.{head_least, head_most}
use Rattle.frame.specs.Envelope.{Envelope, envelope}
use Rattle.frame.proofs.Bounds.{within_bytes}
use Rattle.frame_decoder.specs.Reader.{Phase, in_header, in_rest, in_segment, in_reassembly, stopped, Reader, header_passed, segment_finished, payload_read, leftover, counts_in, counts_of}
use Rattle.frame_decoder.specs.Settle.{Due, due, waits, Settled, settled, refusing, header_due, leftover_due, from_segment, read_segment, from_pending, read_pending, read_alone, read_joined, received, segment_due, settle_at, settle}
use Rattle.frame_decoder.specs.Private.Inside.{Lie, Admitted, wanted}
use Rattle.frame_decoder.proofs.Steps.{passed_admitted, finished_admitted, handed_admitted, read_admitted, stopped_admitted}

abbrev pub Sound : ℕ → ℕ → Due → List ℕ → Type 0
Sound a b (due answer r) reassembly = Admitted r a b × (length reassembly ≡ b)
Sound a b (waits r) reassembly = Admitted r a b × (length reassembly ≡ b) × (0 < wanted (counts_of r))

-- the fields of a header are no longer than a payload can be
payload_most : (x : ℕ) → x % 131072 ≤ 131071
payload_most x = omega arith

module _ (r : Reader) (a b : ℕ) (ok : Admitted r a b) where
  begins_wanting : 0 < wanted (counts_in r.form 0 (in_header 0))
  begins_wanting = omega (arith, head_least r.form)

  -- ---- a header

  module _ (n : ℕ) (seg re : List ℕ) (la : length seg ≡ a) (lb : length re ≡ b) (most : n ≤ header_length r.form) where
    sound_passed : (h : Header) → h.payload ≤ 131071 → header_length r.form ≤ n → (t : Bool) → leb (segment_length r.form h.payload) (length seg) ≡ t
        → Sound a b (cond t (waits (header_passed r n h)) (refusing segment_too_long r)) re
    sound_passed h small there true e =
        let room : segment_length r.form h.payload ≤ length seg = leb-true (segment_length r.form h.payload) (length seg) e in
        (passed_admitted ok n h small (omega arith) (omega arith), lb, omega arith)
    sound_passed h small there false e = (stopped_admitted ok segment_too_long, lb)

    sound_header : r.phase ≡ in_header n → {f : Front Refusal Header} → Headers r.form (take n seg) f → Sound a b (header_due r n (length seg) f) re
    unfolding header_due fields_of
    sound_header q (head_cut h) =
        let l : length (take n seg) ≡ n = length-take-le n seg (omega (arith, head_most r.form, ok.least)) in
        (ok, lb, subst (λ (p : Phase). 0 < wanted (counts_in r.form r.pending p)) (sym q) (omega arith))
    sound_header q (head_differs h c) = (stopped_admitted ok header_check_differs, lb)
    sound_header q (head_compressed h c u) = (stopped_admitted ok payload_compressed, lb)
    sound_header q (head_good h c u) =
        let l : length (take n seg) ≡ n = length-take-le n seg (omega (arith, head_most r.form, ok.least)) in
        sound_passed (fields_at r.form (take n seg)) (payload_most _) (omega arith) (leb (segment_length r.form (fields_at r.form (take n seg)).payload) (length seg)) refl

  -- ---- envelopes of a payload

  module _ (seg re : List ℕ) (len at : ℕ) (la : length seg ≡ a) (lb : length re ≡ b) (lie : Lie r.form a (counts_in r.form r.pending (in_segment len at))) where
    sound_left : (n : ℕ) (t : Bool) → Sound a b (cond t (waits (payload_read r r.pending)) (due (leftover n) (payload_read r r.pending))) re
    sound_left n true = (read_admitted ok r.pending ok.held, lb, begins_wanting)
    sound_left n false = (read_admitted ok r.pending ok.held, lb)

    sound_from : (f : Front Refusal Envelope) → envelope (part seg (header_length r.form + at) (len - at)) ≡ f → Sound a b (from_segment r len at f) re
    unfolding from_segment leftover_due
    sound_from incomplete e = sound_left (len - at) (eqb (len - at) 0)
    sound_from (refuses why) e = (stopped_admitted ok why, lb)
    sound_from (whole v) e =
        let l : length (part seg (header_length r.form + at) (len - at)) ≡ len - at = length_part seg (header_length r.form + at) (len - at) (omega (arith, lie.room, lie.read)) in
        (handed_admitted ok (in_segment len at) v.size lie (omega (arith, within_bytes _ e)), lb)

    pub sound_segment : Sound a b (read_segment r seg len at) re
    unfolding read_segment
    sound_segment = sound_from (envelope (part seg (header_length r.form + at) (len - at))) refl

  -- ---- envelopes of the pending bytes

  module _ (re : List ℕ) (at : ℕ) (lb : length re ≡ b) (lie : Lie r.form a (counts_in r.form r.pending (in_reassembly at))) where
    unread : length (part re at (r.pending - at)) ≡ r.pending - at
    unread = length_part re at (r.pending - at) (omega (arith, ok.held, lie.from))

    sound_pended : (f : Front Refusal Envelope) → envelope (part re at (r.pending - at)) ≡ f → Sound a b (from_pending r re at f).says (from_pending r re at f).reassembly
    unfolding from_pending
    sound_pended incomplete e = (
      read_admitted ok (r.pending - at) (omega (arith, ok.held)),
      length_put re 0 (part re at (r.pending - at)) (omega (arith, unread, zero-add (length (part re at (r.pending - at))), ok.held)) ∙ lb,
      begins_wanting,
    )
    sound_pended (refuses why) e = (stopped_admitted ok why, lb)
    sound_pended (whole v) e = (handed_admitted ok (in_reassembly at) v.size lie (omega (arith, unread, within_bytes _ e)), lb)

    pub sound_pending : Sound a b (read_pending r re at).says (read_pending r re at).reassembly
    unfolding read_pending
    sound_pending = sound_pended (envelope (part re at (r.pending - at))) refl

module _ (r : Reader) (a b : ℕ) (ok : Admitted r a b) (seg re : List ℕ) (la : length seg ≡ a) (lb : length re ≡ b) where
  module _ (len : ℕ) (small : len ≤ 131071) (room : segment_length r.form len ≤ a) where
    sound_alone : (t : Bool) → Sound a b (cond t (read_segment (segment_finished r len true) seg len 0) (refusing unexpected_self_contained r)) re
    sound_alone true =
        let done : Admitted (segment_finished r len true) a b = finished_admitted ok len true small room (omega arith) in
        sound_segment (segment_finished r len true) a b done seg re len 0 la lb done.counts
    sound_alone false = (stopped_admitted ok unexpected_self_contained, lb)

    sound_joined : (p : List ℕ) → length p ≡ len → (t : Bool) → leb (r.pending + length p) (length re) ≡ t
        → (let s : Settled = cond t (read_pending (segment_finished r (length p) false) (put re r.pending p) 0) (settled (refusing reassembly_too_short r) re) in Sound a b s.says s.reassembly)
    sound_joined p l true e =
        let fits : r.pending + length p ≤ length re = leb-true (r.pending + length p) (length re) e in
        let done : Admitted (segment_finished r (length p) false) a b = finished_admitted ok (length p) false (omega arith) (omega arith) (omega arith) in
        sound_pending (segment_finished r (length p) false) a b done (put re r.pending p) 0 (length_put re r.pending p fits ∙ lb) done.counts
    sound_joined p l false e = (stopped_admitted ok reassembly_too_short, lb)

    sound_received : (self : Bool) (p : List ℕ) → length p ≡ len → Sound a b (received r seg re len self p).says (received r seg re len self p).reassembly
    unfolding read_alone read_joined
    sound_received true p l = sound_alone (eqb r.pending 0)
    sound_received false p l = sound_joined p l (leb (r.pending + length p) (length re)) refl

  sound_due : (n len : ℕ) (self : Bool) → r.phase ≡ in_rest n len self → Lie r.form a (counts_in r.form r.pending (in_rest n len self))
      → {f : Front Refusal Segment} → Payloads r.form (take n seg) (header len 0 self) f → Sound a b (segment_due r seg re len f).says (segment_due r seg re len f).reassembly
  unfolding segment_due
  sound_due n len self q k (payload_cut l) =
      let t : length (take n seg) ≡ n = length-take-le n seg (omega (arith, k.room, k.there)) in
      (ok, lb, subst (λ (p : Phase). 0 < wanted (counts_in r.form r.pending p)) (sym q) (omega arith))
  sound_due n len self q k (payload_differs l c) = (stopped_admitted ok payload_check_differs, lb)
  sound_due n len self q k (payload_good l c) = sound_received len k.small k.room self _ (length_part (take n seg) (header_length r.form) len (omega arith))

  sound_at : (q : Phase) → r.phase ≡ q → Lie r.form a (counts_in r.form r.pending q) → Sound a b (settle_at r seg re q).says (settle_at r seg re q).reassembly
  unfolding settle_at
  sound_at (in_header n) e k = sound_header r a b ok n seg re la lb k.there e (header_case r.form (take n seg))
  sound_at (in_rest n len self) e k = sound_due n len self e k (payload_case r.form (take n seg) (header len 0 self))
  sound_at (in_segment len at) e k = sound_segment r a b ok seg re len at la lb k
  sound_at (in_reassembly at) e k = sound_pending r a b ok re at lb k
  sound_at (stopped why) e k = (ok, lb)

  pub settle_sound : Sound a b (settle r seg re).says (settle r seg re).reassembly
  unfolding settle
  settle_sound = sound_at r.phase refl ok.counts
