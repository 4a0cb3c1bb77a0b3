-- What is still to come from a reader, given the bytes to come; and that settling keeps it. Assumes nothing.
use Prim.Native.Nat.{ℕ, ◌+◌, ◌-◌, ◌≤◌, ◌<◌}
use mathlib.Core.Path.{◌≡◌, refl, sym, ap, ap₂, ◌∙◌, subst}
use mathlib.Core.Bool.{Bool, true, false, cond}
use mathlib.Core.List.{List, [], ◌++◌}
use native.Mathlib.Nat.{zero-add, add-zero}
use native.Mathlib.Omega.{arith}
use borrow.Author.Tests.{leb-true, eqb-false}
use lib.Dec.{leb, eqb}
use lib.ListN.{length, take, drop}
use lib.Seq.{length-take-le}
use Rattle.basis.specs.Front.{Front, incomplete, refuses, whole, if_whole}
use Rattle.basis.specs.Machine.{Reply, hands_on, asks_more, refuses_with, dated, says, refused_after}
use Rattle.refusal.specs.Refusal.{Refusal, segment_too_long, unexpected_self_contained, reassembly_too_short}
use Rattle.types.specs.Number.{part}
use Rattle.types.specs.Read.{place}
use Rattle.types.specs.Write.{put}
use Rattle.types.proofs.BigEndian.{length_part}
use Rattle.types.proofs.Put.{length_put}
use Rattle.segment.specs.Header.{Header, header, header_length}
use Rattle.segment.specs.Segment.{Segment, segment, segment_length, header_at, payload_at}
use Rattle.segment.proofs.Cases.{Payloads, payload_cut, payload_differs, payload_good, payload_case}
use Rattle.segment.proofs.HeaderLaid.{head_most}
use Rattle.segment.proofs.ReadWritten.{header_found}
use Rattle.frame.specs.Envelope.{Envelope, envelope}
use Rattle.frame.proofs.Bounds.{nine_or_more, within_bytes}
use Rattle.frame_decoder.specs.Reader.{Phase, in_header, in_rest, in_segment, in_reassembly, stopped, Reader, header_passed, segment_finished, payload_read, segment_buffer, reassembly_buffer, bytes_at, leftover, counts_in, counts_of, max_reassembly}
use Rattle.frame_decoder.specs.Settle.{Due, due, waits, Settled, settled, refusing, header_due, leftover_due, from_segment, read_segment, moved_down, from_pending, read_pending, read_alone, read_joined, received, segment_due, settle_at, settle}
use Rattle.frame_decoder.specs.Private.Inside.{Lie, Admitted}
use Rattle.frame_decoder.proofs.Parts.{part_taken}
use Rattle.stream.specs.Meaning.{Lent, Said, envelope_of, leftover_of, Meaning, behind_header, envelopes_in, dropping, by_beginning, meaning_from}
use Rattle.stream.specs.Caller.{state, reply_of, undelivered}
use Rattle.stream.specs.Collect.{said_length}
use Rattle.stream.specs.Private.Inside.{lent_of, rest_at, rest, Agrees}
use Rattle.stream.proofs.Lists.{part_rest, part_first, bytes_part, take_put}
use Rattle.stream.proofs.Envelopes.{none_whole, first_refused, first_whole}
use Rattle.stream.proofs.Heads.{by_header, roomy_header, nothing_seen}

-- ---- what settling a reader in phase q says of all that is to come

pub record Speaks (r : Reader) (q : Phase) (seg re : List ℕ) (x : Said) (r' : Reader) (re' : List ℕ) : Type 0 where
  pub lends : lent_of r' ≡ lent_of r
  pub less : undelivered (counts_of r') < undelivered (counts_in r.form r.pending q)
  pub small : said_length x ≤ max_reassembly
  pub agrees : Agrees r'.form r'.phase seg
  pub same : Agrees r.form q seg → (taken : ℕ) (stream : List ℕ) → rest_at (lent_of r) r.pending q seg re taken stream ≡ says (dated taken x) (rest (state r' seg re') taken stream)

pub record Stops (r : Reader) (q : Phase) (seg re : List ℕ) (why : Refusal) (r' : Reader) : Type 0 where
  pub lends : lent_of r' ≡ lent_of r
  pub stays : r'.phase ≡ stopped why
  pub same : Agrees r.form q seg → (taken : ℕ) (stream : List ℕ) → rest_at (lent_of r) r.pending q seg re taken stream ≡ refused_after why taken

pub record Waits (r : Reader) (q : Phase) (seg re : List ℕ) (r' : Reader) (re' : List ℕ) : Type 0 where
  pub lends : lent_of r' ≡ lent_of r
  pub most : undelivered (counts_of r') ≤ undelivered (counts_in r.form r.pending q)
  pub agrees : Agrees r.form q seg → Agrees r'.form r'.phase seg
  pub same : Agrees r.form q seg → (taken : ℕ) (stream : List ℕ) → rest_at (lent_of r) r.pending q seg re taken stream ≡ rest (state r' seg re') taken stream

-- more is never due by itself
abbrev pub Replies : Reader → Phase → List ℕ → List ℕ → Reply Said Refusal → Reader → List ℕ → Type 0
Replies r q seg re (hands_on x) r' re' = Speaks r q seg re x r' re'
Replies r q seg re asks_more r' re' = ⊥
Replies r q seg re (refuses_with why) r' re' = Stops r q seg re why r'

abbrev pub Tells : Reader → Phase → List ℕ → List ℕ → Due → List ℕ → Type 0
Tells r q seg re (due answer r') re' = Replies r q seg re (reply_of answer seg re') r' re'
Tells r q seg re (waits r') re' = Waits r q seg re r' re'

-- another reader from which the same is to come, and no more of it
module _ (r x : Reader) (q p : Phase) (seg re re₁ : List ℕ) (l : lent_of x ≡ lent_of r) (m : undelivered (counts_in x.form x.pending p) ≤ undelivered (counts_in r.form r.pending q)) (agrees : Agrees r.form q seg → Agrees x.form p seg)
    (s : Agrees r.form q seg → (taken : ℕ) (stream : List ℕ) → rest_at (lent_of r) r.pending q seg re taken stream ≡ rest_at (lent_of x) x.pending p seg re₁ taken stream) where
  replied : (reply : Reply Said Refusal) (r' : Reader) (re' : List ℕ) → Replies x p seg re₁ reply r' re' → Replies r q seg re reply r' re'
  replied (hands_on said) r' re' t =
      record { lends = t.lends ∙ l; less = omega (arith, t.less); small = t.small; agrees = t.agrees; same = λ a taken stream. s a taken stream ∙ t.same (agrees a) taken stream }
  replied asks_more r' re' t = t
  replied (refuses_with why) r' re' t = record { lends = t.lends ∙ l; stays = t.stays; same = λ a taken stream. s a taken stream ∙ t.same (agrees a) taken stream }

  pub before : (d : Due) (re' : List ℕ) → Tells x p seg re₁ d re' → Tells r q seg re d re'
  before (due answer r') re' t = replied (reply_of answer seg re') r' re' t
  before (waits r') re' t =
      record { lends = t.lends ∙ l; most = omega (arith, t.most); agrees = λ a. t.agrees (agrees a); same = λ a taken stream. s a taken stream ∙ t.same (agrees a) taken stream }

-- before a segment's first byte
begins : (z : Lent) (pending : ℕ) (seg re : List ℕ) (taken : ℕ) (stream : List ℕ) → rest_at z pending (in_header 0) seg re taken stream ≡ meaning_from z taken (take pending re) [] stream
begins z pending seg re taken stream =
    ap (λ (f : Front Refusal Segment). by_beginning z f (take pending re) [] taken (λ pending' s'. meaning_from z taken pending' s' stream)) (nothing_seen z)

module _ (r : Reader) (seg re : List ℕ) where
  abbrev z : Lent
  z = lent_of r

  abbrev pending : List ℕ
  pending = take r.pending re

  -- ---- envelopes of a self-contained payload

  module _ (len at : ℕ) (room : segment_length r.form len ≤ length seg) (h : at ≤ len) (wide : length seg ≤ max_reassembly) where
    abbrev unread : List ℕ
    unread = part seg (header_length r.form + at) (len - at)

    unread_length : length unread ≡ len - at
    unread_length = length_part seg (header_length r.form + at) (len - at) (omega arith)

    drops : ℕ → List ℕ → ℕ → Bool → Meaning
    drops taken stream n t = cond t (meaning_from z taken pending [] stream) (says (dated taken (leftover_of n)) (meaning_from z taken pending [] stream))

    -- no envelope is left
    left_over : (t : Bool) → eqb (len - at) 0 ≡ t → envelope unread ≡ incomplete → (taken : ℕ) (stream : List ℕ)
        → rest_at z r.pending (in_segment len at) seg re taken stream ≡ drops taken stream (len - at) t
    unfolding drops
    left_over t e k taken stream =
        none_whole taken segment_buffer _ _ unread k ∙ ap (λ (n : ℕ). drops taken stream n (eqb n 0)) unread_length ∙ ap (drops taken stream (len - at)) e

    tells_left : (t : Bool) → eqb (len - at) 0 ≡ t → envelope unread ≡ incomplete
        → Tells r (in_segment len at) seg re (cond t (waits (payload_read r r.pending)) (due (leftover (len - at)) (payload_read r r.pending))) re
    unfolding drops
    tells_left true e k =
        record {
          lends = refl;
          most = omega arith;
          agrees = λ a. tt;
          same = λ a taken stream. left_over true e k taken stream ∙ sym (begins z r.pending seg re taken stream);
        }
    tells_left false e k =
        let some : len - at ≡ 0 → ⊥ = eqb-false (len - at) 0 e in
        record {
          lends = refl;
          less = omega arith;
          small = omega arith;
          agrees = tt;
          same = λ a taken stream. left_over false e k taken stream ∙ ap (says (dated taken (leftover_of (len - at)))) (sym (begins z r.pending seg re taken stream));
        }

    tells_from : (f : Front Refusal Envelope) → envelope unread ≡ f → Tells r (in_segment len at) seg re (from_segment r len at f) re
    unfolding from_segment leftover_due
    tells_from incomplete e = tells_left (eqb (len - at) 0) refl e
    tells_from (refuses why) e = record { lends = refl; stays = refl; same = λ a taken stream. first_refused taken segment_buffer _ _ unread why e }
    tells_from (whole v) e =
        let n : ℕ = v.size in
        let l : length unread ≡ len - at = unread_length in
        let fits : n ≤ len - at = omega (arith, within_bytes unread e) in
        let bytes : take n unread ≡ bytes_at segment_buffer seg re (place (header_length r.form + at) n) =
        part_first seg (header_length r.form + at) (len - at) n fits ∙ sym (bytes_part seg (header_length r.form + at) n (omega arith))
        in
        let at_next : header_length r.form + at + n ≡ header_length r.form + (at + n) = omega arith in
        let on : drop n unread ≡ part seg (header_length r.form + (at + n)) (len - (at + n)) =
        part_rest seg (header_length r.form + at) (len - at) n ∙ ap₂ (part seg) at_next (let i : len - at - n ≡ len - (at + n) = omega arith in i)
        in
        record {
          lends = refl;
          less = omega (arith, nine_or_more unread e);
          small = subst (λ (k : ℕ). k ≤ max_reassembly) (sym (length-take-le n unread (omega arith)) ∙ ap length bytes) (omega arith);
          agrees = tt;
          same =
              λ a taken stream. first_whole taken segment_buffer _ _ unread v e
              ∙ ap₂ (λ (b u : List ℕ). says (dated taken (envelope_of segment_buffer (place (header_length r.form + at) n) b v)) (envelopes_in taken segment_buffer (header_length r.form + at + n) 0 u (λ unread. dropping taken unread (meaning_from z taken pending [] stream)))) bytes on
              ∙ ap (λ (k : ℕ). says (dated taken (envelope_of segment_buffer (place (header_length r.form + at) n) (bytes_at segment_buffer seg re (place (header_length r.form + at) n)) v)) (envelopes_in taken segment_buffer k 0 (part seg (header_length r.form + (at + n)) (len - (at + n))) (λ unread. dropping taken unread (meaning_from z taken pending [] stream)))) at_next;
        }

    pub tells_segment : Tells r (in_segment len at) seg re (read_segment r seg len at) re
    unfolding read_segment
    tells_segment = tells_from (envelope unread) refl

  -- ---- envelopes of the pending bytes

  module _ (at : ℕ) (within : r.pending ≤ length re) (h : at ≤ r.pending) (wide : length re ≤ max_reassembly) where
    abbrev unread_pending : List ℕ
    unread_pending = part re at (r.pending - at)

    tells_pended : (f : Front Refusal Envelope) → envelope unread_pending ≡ f
        → Tells r (in_reassembly at) seg re (from_pending r re at f).says (from_pending r re at f).reassembly
    unfolding from_pending
    tells_pended incomplete e =
        let n : ℕ = r.pending - at in
        let l : length unread_pending ≡ n = length_part re at n (omega arith) in
        let front : take n (moved_down re at n) ≡ unread_pending = take_put re unread_pending 0 n (omega arith) (sym l ∙ sym (zero-add (length unread_pending))) in
        record {
          lends = refl;
          most = omega arith;
          agrees = λ a. tt;
          same =
              λ a taken stream. none_whole taken reassembly_buffer _ _ unread_pending e
              ∙ ap (λ (u : List ℕ). meaning_from z taken u [] stream) (sym front)
              ∙ sym (begins z n seg (moved_down re at n) taken stream);
        }
    tells_pended (refuses why) e = record { lends = refl; stays = refl; same = λ a taken stream. first_refused taken reassembly_buffer _ _ unread_pending why e }
    tells_pended (whole v) e =
        let n : ℕ = v.size in
        let l : length unread_pending ≡ r.pending - at = length_part re at (r.pending - at) (omega arith) in
        let fits : n ≤ r.pending - at = omega (arith, within_bytes unread_pending e) in
        let bytes : take n unread_pending ≡ bytes_at reassembly_buffer seg re (place at n) =
        part_first re at (r.pending - at) n fits ∙ sym (bytes_part re at n (omega arith))
        in
        let on : drop n unread_pending ≡ part re (at + n) (r.pending - (at + n)) =
        part_rest re at (r.pending - at) n ∙ ap (part re (at + n)) (let i : r.pending - at - n ≡ r.pending - (at + n) = omega arith in i)
        in
        record {
          lends = refl;
          less = omega (arith, nine_or_more unread_pending e);
          small = subst (λ (k : ℕ). k ≤ max_reassembly) (sym (length-take-le n unread_pending (omega arith)) ∙ ap length bytes) (omega arith);
          agrees = tt;
          same =
              λ a taken stream. first_whole taken reassembly_buffer _ _ unread_pending v e
              ∙ ap₂ (λ (b u : List ℕ). says (dated taken (envelope_of reassembly_buffer (place at n) b v)) (envelopes_in taken reassembly_buffer (at + n) 0 u (λ unread. meaning_from z taken unread [] stream))) bytes on;
        }

    pub tells_pending : Tells r (in_reassembly at) seg re (read_pending r re at).says (read_pending r re at).reassembly
    unfolding read_pending
    tells_pending = tells_pended (envelope unread_pending) refl

-- ---- a header

module _ (r : Reader) (seg re : List ℕ) (n : ℕ) (q : r.phase ≡ in_header n) (cap : length seg ≡ r.segment) where
  -- what is to come does not depend on whether the header was judged already
  judged_by : {f : Front Refusal Header} → header_at r.form (take n seg) ≡ f → (taken : ℕ) (stream : List ℕ)
      → rest_at (lent_of r) r.pending (in_header n) seg re taken stream
      ≡ by_beginning (lent_of r) (if_whole f (behind_header (lent_of r) (take n seg))) (take r.pending re) (take n seg) taken (λ pending' s'. meaning_from (lent_of r) taken pending' s' stream)
  judged_by e taken stream =
      ap (λ (f : Front Refusal Segment). by_beginning (lent_of r) f (take r.pending re) (take n seg) taken (λ pending' s'. meaning_from (lent_of r) taken pending' s' stream)) (by_header (lent_of r) (take n seg) e)

  tells_passed : (h : Header) → header_at r.form (take n seg) ≡ whole h → header_length r.form ≤ n → (t : Bool) → leb (segment_length r.form h.payload) (length seg) ≡ t
      → Tells r (in_header n) seg re (cond t (waits (header_passed r n h)) (refusing segment_too_long r)) re
  tells_passed h e there true t =
      record {
        lends = refl;
        most = omega arith;
        agrees = λ a. (there, e ∙ ap (λ (u : ℕ). whole (header h.payload u h.self)) (header_found r.form (take n seg) e).plain);
        same = λ a taken stream. refl;
      }
  tells_passed h e there false t =
      record {
        lends = refl;
        stays = refl;
        same =
            λ a taken stream. judged_by e taken stream
            ∙ ap (λ (b : Bool). by_beginning (lent_of r) (cond b (payload_at r.form (take n seg) h) (refuses segment_too_long)) (take r.pending re) (take n seg) taken (λ pending' s'. meaning_from (lent_of r) taken pending' s' stream))
            (ap (leb (segment_length r.form h.payload)) (sym cap) ∙ t);
      }

  pub tells_header : n ≤ length seg → (f : Front Refusal Header) → header_at r.form (take n seg) ≡ f → Tells r (in_header n) seg re (header_due r n (length seg) f) re
  unfolding header_due
  tells_header room incomplete e =
      record {
        lends = refl;
        most = subst (λ (p : Phase). undelivered (counts_in r.form r.pending p) ≤ undelivered (counts_in r.form r.pending (in_header n))) (sym q) (omega arith);
        agrees = λ a. subst (λ (p : Phase). Agrees r.form p seg) (sym q) tt;
        same = λ a taken stream. ap (λ (p : Phase). rest_at (lent_of r) r.pending p seg re taken stream) (sym q);
      }
  tells_header room (refuses why) e = record { lends = refl; stays = refl; same = λ a taken stream. judged_by e taken stream }
  tells_header room (whole h) e =
      let l : length (take n seg) ≡ n = length-take-le n seg room in
      tells_passed h e (omega (arith, (header_found r.form (take n seg) e).room)) (leb (segment_length r.form h.payload) (length seg)) refl

-- ---- a segment

module _ (r : Reader) (seg re : List ℕ) (n len : ℕ) (self : Bool) (q : r.phase ≡ in_rest n len self) (cap : length seg ≡ r.segment) (most : length re ≡ r.reassembly)
    (within : r.pending ≤ length re) (room : segment_length r.form len ≤ length seg) (here : n ≤ segment_length r.form len)
    (wide : length seg ≤ max_reassembly) (wide-re : length re ≤ max_reassembly) where
  abbrev s : List ℕ
  s = take n seg

  abbrev goes_on : ℕ → List ℕ → List ℕ → List ℕ → Meaning
  goes_on taken stream pending' s' = meaning_from (lent_of r) taken pending' s' stream

  abbrev payload : List ℕ
  payload = part seg (header_length r.form) len

  -- by what its bytes are behind the header
  judged_so : {f : Front Refusal Segment} → payload_at r.form s (header len 0 self) ≡ f → Agrees r.form (in_rest n len self) seg → (taken : ℕ) (stream : List ℕ)
      → rest_at (lent_of r) r.pending (in_rest n len self) seg re taken stream ≡ by_beginning (lent_of r) f (take r.pending re) s taken (goes_on taken stream)
  judged_so e a taken stream =
      ap (λ (f : Front Refusal Segment). by_beginning (lent_of r) f (take r.pending re) s taken (goes_on taken stream))
      (roomy_header (lent_of r) s (header len 0 self) a.1 (omega arith) ∙ e)

  pending_length : length (take r.pending re) ≡ r.pending
  pending_length = length-take-le r.pending re within

  module _ (there : segment_length r.form len ≤ n) where
    payload_length : length payload ≡ len
    payload_length = length_part seg (header_length r.form) len (omega arith)

    -- self-contained
    by_pending : (own : Bool) → payload_at r.form s (header len 0 self) ≡ whole (segment own payload) → own ≡ true → Agrees r.form (in_rest n len self) seg → (taken : ℕ) (stream : List ℕ) → (t : Bool) → eqb r.pending 0 ≡ t
        → rest_at (lent_of r) r.pending (in_rest n len self) seg re taken stream
        ≡ cond t (rest_at (lent_of r) r.pending (in_segment len 0) seg re taken stream) (refused_after unexpected_self_contained taken)
    by_pending own e o a taken stream t k =
        judged_so (e ∙ ap (λ (b : Bool). whole (segment b payload)) o) a taken stream
        ∙ ap₂ (λ (b : Bool) (n : ℕ). cond b (envelopes_in taken segment_buffer n 0 (part seg n len) (λ unread. dropping taken unread (goes_on taken stream (take r.pending re) []))) (refused_after unexpected_self_contained taken))
        (ap (λ (i : ℕ). eqb i 0) pending_length ∙ k) (sym (add-zero (header_length r.form)))
        ∙ ap (λ (n : ℕ). cond t (envelopes_in taken segment_buffer (header_length r.form + 0) 0 (part seg (header_length r.form + 0) n) (λ unread. dropping taken unread (goes_on taken stream (take r.pending re) []))) (refused_after unexpected_self_contained taken))
        (let i : len ≡ len - 0 = omega arith in i)

    tells_alone : (own : Bool) → payload_at r.form s (header len 0 self) ≡ whole (segment own payload) → own ≡ true → (t : Bool) → eqb r.pending 0 ≡ t
        → Tells r (in_rest n len self) seg re (cond t (read_segment (segment_finished r len true) seg len 0) (refusing unexpected_self_contained r)) re
    tells_alone own e o true k =
        before r (segment_finished r len true) (in_rest n len self) (in_segment len 0) seg re re refl (omega arith) (λ a. tt) (λ a taken stream. by_pending own e o a taken stream true k)
        (read_segment (segment_finished r len true) seg len 0) re (tells_segment (segment_finished r len true) seg re len 0 room (omega arith) wide)
    tells_alone own e o false k = record { lends = refl; stays = refl; same = λ a taken stream. by_pending own e o a taken stream false k }

    -- not: its payload joins the pending bytes
    module _ (own : Bool) (e : payload_at r.form s (header len 0 self) ≡ whole (segment own payload)) (o : own ≡ false) where
      joined_by : Agrees r.form (in_rest n len self) seg → (taken : ℕ) (stream : List ℕ) (t : Bool) → leb (r.pending + length payload) (length re) ≡ t
          → rest_at (lent_of r) r.pending (in_rest n len self) seg re taken stream
          ≡ cond t (envelopes_in taken reassembly_buffer 0 0 (take r.pending re ++ payload) (λ unread. goes_on taken stream unread [])) (refused_after reassembly_too_short taken)
      joined_by a taken stream t k =
          judged_so (e ∙ ap (λ (b : Bool). whole (segment b payload)) o) a taken stream
          ∙ ap (λ (b : Bool). cond b (envelopes_in taken reassembly_buffer 0 0 (take r.pending re ++ payload) (λ unread. goes_on taken stream unread [])) (refused_after reassembly_too_short taken))
          (ap₂ (λ (i c : ℕ). leb (i + length payload) c) pending_length (sym most) ∙ k)

      abbrev finished : Reader
      finished = segment_finished r (length payload) false

      tells_joined : (t : Bool) → leb (r.pending + length payload) (length re) ≡ t
          → (let d : Settled = cond t (read_pending finished (put re r.pending payload) 0) (settled (refusing reassembly_too_short r) re) in Tells r (in_rest n len self) seg re d.says d.reassembly)
      tells_joined true k =
          let fits : r.pending + length payload ≤ length re = leb-true (r.pending + length payload) (length re) k in
          let re₁ : List ℕ = put re r.pending payload in
          let l : length re₁ ≡ length re = length_put re r.pending payload fits in
          let front : take r.pending re ++ payload ≡ part re₁ 0 (r.pending + length payload - 0) =
          sym (take_put re payload r.pending (r.pending + length payload) within refl) ∙ ap (λ (i : ℕ). take i re₁) (let i : r.pending + length payload ≡ r.pending + length payload - 0 = omega arith in i)
          in
          before r finished (in_rest n len self) (in_reassembly 0) seg re re₁ refl (omega (arith, payload_length)) (λ a. tt)
          (λ a taken stream. joined_by a taken stream true k ∙ ap (λ (u : List ℕ). envelopes_in taken reassembly_buffer 0 0 u (λ unread. goes_on taken stream unread [])) front)
          (read_pending finished re₁ 0).says (read_pending finished re₁ 0).reassembly (tells_pending finished seg re₁ 0 (omega arith) (omega arith) (omega arith))
      tells_joined false k = record { lends = refl; stays = refl; same = λ a taken stream. joined_by a taken stream false k }

    tells_received : (own : Bool) → payload_at r.form s (header len 0 self) ≡ whole (segment own payload)
        → Tells r (in_rest n len self) seg re (received r seg re len own payload).says (received r seg re len own payload).reassembly
    unfolding read_alone read_joined
    tells_received true e = tells_alone true e refl (eqb r.pending 0) refl
    tells_received false e = tells_joined false e refl (leb (r.pending + length payload) (length re)) refl

  tells_due : {f : Front Refusal Segment} → Payloads r.form s (header len 0 self) f → payload_at r.form s (header len 0 self) ≡ f
      → Tells r (in_rest n len self) seg re (segment_due r seg re len f).says (segment_due r seg re len f).reassembly
  unfolding segment_due
  tells_due (payload_cut l) e =
      record {
        lends = refl;
        most = subst (λ (p : Phase). undelivered (counts_in r.form r.pending p) ≤ undelivered (counts_in r.form r.pending (in_rest n len self))) (sym q) (omega arith);
        agrees = λ a. subst (λ (p : Phase). Agrees r.form p seg) (sym q) a;
        same = λ a taken stream. ap (λ (p : Phase). rest_at (lent_of r) r.pending p seg re taken stream) (sym q);
      }
  tells_due (payload_differs l c) e = record { lends = refl; stays = refl; same = λ a taken stream. judged_so e a taken stream }
  tells_due (payload_good l c) e =
      let k : length s ≡ n = length-take-le n seg (omega arith) in
      let there : segment_length r.form len ≤ n = omega arith in
      let same : part s (header_length r.form) len ≡ payload = part_taken seg n (header_length r.form) len (omega arith) (omega arith) in
      subst (λ (p : List ℕ). Tells r (in_rest n len self) seg re (received r seg re len self p).says (received r seg re len self p).reassembly) (sym same)
      (tells_received there self (e ∙ ap (λ (p : List ℕ). whole (segment self p)) same))

  pub tells_rest : Tells r (in_rest n len self) seg re (segment_due r seg re len (payload_at r.form s (header len 0 self))).says (segment_due r seg re len (payload_at r.form s (header len 0 self))).reassembly
  tells_rest = tells_due (payload_case r.form s (header len 0 self)) refl

-- ---- by phase

module _ (r : Reader) (seg re : List ℕ) (cap : length seg ≡ r.segment) (most : length re ≡ r.reassembly) (ok : Admitted r (length seg) (length re)) where
  tells_at : (q : Phase) → r.phase ≡ q → Lie r.form (length seg) (counts_in r.form r.pending q) → Tells r q seg re (settle_at r seg re q).says (settle_at r seg re q).reassembly
  unfolding settle_at
  tells_at (in_header n) e k = tells_header r seg re n e cap (omega (arith, k.there, head_most r.form, ok.least)) (header_at r.form (take n seg)) refl
  tells_at (in_rest n len self) e k = tells_rest r seg re n len self e cap most ok.held k.room k.there (omega (arith, ok.most)) ok.largest
  tells_at (in_segment len at) e k = tells_segment r seg re len at k.room k.read (omega (arith, ok.most))
  tells_at (in_reassembly at) e k = tells_pending r seg re at ok.held k.from ok.largest
  tells_at (stopped why) e k = record { lends = refl; stays = e; same = λ a taken stream. refl }

  pub settle_tells : Tells r r.phase seg re (settle r seg re).says (settle r seg re).reassembly
  unfolding settle
  settle_tells = tells_at r.phase refl ok.counts
