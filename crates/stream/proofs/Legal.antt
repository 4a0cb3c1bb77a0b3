-- Demand 3, the second half: a legal stream, the lent sizes sufficing, means exactly its envelopes, and nothing is held. Assumes nothing.
use Prim.Native.Nat.{ℕ, ◌+◌, ◌-◌, ◌≤◌, ◌<◌}
use mathlib.Core.Path.{◌≡◌, refl, sym, ap, ap₂, ◌∙◌, subst}
use mathlib.Core.Bool.{Bool, true, false, cond}
use mathlib.Core.List.{List, [], ◌∷◌, ◌++◌, append_assoc, append-nil}
use native.Mathlib.Decide.{dec_le}
use native.Mathlib.Nat.{add-zero, lt_of_not-le}
use native.Mathlib.Omega.{arith}
use borrow.Author.Tests.{le-leb, lt-leb}
use lib.Dec.{leb}
use lib.ListN.{length, take, drop, length-append, length-drop, take-append-drop}
use lib.Seq.{take-append_seam, drop-append_seam}
use Rattle.basis.specs.Front.{Front, incomplete, refuses, whole, if_whole}
use Rattle.basis.specs.Lists.{joined, AllWithin}
use Rattle.basis.specs.Machine.{Dated, dated, says, refused_after, holding, saying}
use Rattle.basis.proofs.Fronts.{not_whole, refused_not_whole, whole_value}
use Rattle.basis.proofs.Machine.{saying_both}
use Rattle.refusal.specs.Refusal.{Refusal, segment_too_long, reassembly_too_short}
use Rattle.types.specs.Read.{place}
use Rattle.types.proofs.BigEndian.{length_part}
use Rattle.segment.specs.Header.{Form, Header, header_length}
use Rattle.segment.specs.Segment.{Segment, segment, segment_length, header_at, payload_at, segment_at, WholeSegment, Run, no_segment, one_segment}
use Rattle.segment.proofs.Cases.{Payloads, payload_cut, payload_differs, payload_good, payload_case}
use Rattle.segment.proofs.ReadWritten.{header_found}
use Rattle.frame.specs.Envelope.{Envelope, envelope}
use Rattle.frame.proofs.Bounds.{nothing_behind, cut_short}
use Rattle.frame_decoder.specs.Reader.{Buffer, segment_buffer, reassembly_buffer}
use Rattle.stream.specs.Meaning.{Lent, Said, envelope_of, held, Meaning, segment_in, envelopes_in, dropping, by_segment, meaning_from}
use Rattle.stream.specs.Segments.{last_of, judged_at, by_first, segmentwise}
use Rattle.stream.specs.Legal.{Message, message, Envelopes, no_envelope, one_envelope, answered, Parted, parts, parted, run_answered, Legal, legal_end, legal_alone, legal_run, exactly, NeverShort, Fits}
use Rattle.stream.proofs.Lists.{cut_take, cut_drop}
use Rattle.stream.proofs.Envelopes.{nothing_there, none_whole, first_whole}
use Rattle.stream.proofs.Heads.{header_behind, payload_behind, roomy_header, large_header}
use Rattle.stream.proofs.Segments.{segment_by_segment}

-- ---- what is said

never_then : (answers : List (Dated Said)) (m : Meaning) → NeverShort (saying answers m) → NeverShort m
never_then [] m h = h
never_then (x ∷ answers) m h = never_then answers m h

then_never : (answers : List (Dated Said)) (m : Meaning) → NeverShort m → NeverShort (saying answers m)
then_never [] m h = h
then_never (x ∷ answers) m h = then_never answers m h

-- ---- whole envelopes

whole_behind : (e s : List ℕ) (v : Envelope) → envelope e ≡ whole v → envelope (e ++ s) ≡ whole v
whole_behind e s v h = nothing_behind e s (λ i. not_whole (sym i ∙ h)) ∙ h

-- none more is complete and no byte is to come: nothing is left
pub envelopes_end : {s : List ℕ} {es : List Message} → Envelopes s es → envelope s ≡ incomplete → (s ≡ []) × (es ≡ [])
envelopes_end no_envelope h = (refl, refl)
envelopes_end (one_envelope {bytes = e} {others = s} {v = v} r l on) h = absurd (not_whole (sym h ∙ whole_behind e s v r))

pub parted_none : (n : ℕ) → parted n [] ≡ parts [] [] n
unfolding parted
parted_none n = refl

-- the first is whole within n bytes, or not
module _ (e : Message) (es : List Message) (n : ℕ) where
  by_fit : Bool → Parted
  by_fit t = let p : Parted = parted (n - length e.bytes) es in cond t (parts (e ∷ p.complete) p.others p.unread) (parts [] (e ∷ es) n)

  pub parted_more : length e.bytes ≤ n → (let p : Parted = parted (n - length e.bytes) es in parted n (e ∷ es) ≡ parts (e ∷ p.complete) p.others p.unread)
  unfolding by_fit parted
  parted_more h = ap by_fit (le-leb (length e.bytes) n h)

  pub parted_less : n < length e.bytes → parted n (e ∷ es) ≡ parts [] (e ∷ es) n
  unfolding by_fit parted
  parted_less h = ap by_fit (lt-leb (length e.bytes) n h)

-- The first bytes x of whole envelopes: those that are whole in x are said, and bytes of one more are left.
pub record Cut (x y : List ℕ) (es : List Message) : Type 0 where
  pub left : List ℕ
  pub long : length left ≡ (parted (length x) es).unread
  pub on : Envelopes (left ++ y) (parted (length x) es).others
  pub short : envelope left ≡ incomplete
  pub less : length left ≤ length x
  pub tells : (taken : ℕ) (buffer : Buffer) (at : ℕ) (goes_on : List ℕ → Meaning)
      → envelopes_in taken buffer at 0 x goes_on ≡ saying (answered taken buffer at (parted (length x) es).complete) (goes_on left)

cut_none : (x y : List ℕ) → [] ≡ x ++ y → Cut x y []
unfolding parted answered
cut_none [] y q =
    record {
      left = [];
      long = refl;
      on = subst (λ (s : List ℕ). Envelopes s []) q no_envelope;
      short = nothing_there;
      less = omega arith;
      tells = λ taken buffer at goes_on. none_whole taken buffer goes_on at [] nothing_there;
    }
cut_none (b ∷ x) y q = absurd (let z : 0 ≡ length ((b ∷ x) ++ y) = ap length q in omega arith)

module _ (e s x y : List ℕ) (v : Envelope) (es : List Message) (r : envelope e ≡ whole v) (l : v.size ≡ length e) (q : e ++ s ≡ x ++ y) where
  cut_next : length e ≤ length x → Cut (drop (length e) x) y es → Cut x y (message e v ∷ es)
  unfolding answered
  cut_next h i =
      let n : ℕ = length x in
      let d : length (drop (length e) x) ≡ n - length e = length-drop (length e) x in
      let more = parted_more (message e v) es n h in
      let te : take (length e) x ≡ e = cut_take e s x y q h in
      let ex : envelope x ≡ whole v =
      ap envelope (sym (take-append-drop (length e) x) ∙ ap (λ (i : List ℕ). i ++ drop (length e) x) te) ∙ whole_behind e (drop (length e) x) v r
      in
      record {
        left = i.left;
        long = i.long ∙ ap (λ (k : ℕ). (parted k es).unread) d ∙ sym (ap (λ (p : Parted). p.unread) more);
        on = subst (Envelopes (i.left ++ y)) (ap (λ (k : ℕ). (parted k es).others) d ∙ sym (ap (λ (p : Parted). p.others) more)) i.on;
        short = i.short;
        less = omega (arith, i.less);
        tells =
            λ taken buffer at goes_on. first_whole taken buffer goes_on at x v ex
            ∙ ap (λ (k : ℕ). says (dated taken (envelope_of buffer (place at k) (take k x) v)) (envelopes_in taken buffer (at + k) 0 (drop k x) goes_on)) l
            ∙ ap₂ (λ (b : List ℕ) (m : Meaning). says (dated taken (envelope_of buffer (place at (length e)) b v)) m) te (i.tells taken buffer (at + length e) goes_on)
            ∙ ap (λ (k : ℕ). saying (answered taken buffer at (message e v ∷ (parted k es).complete)) (goes_on i.left)) d
            ∙ ap (λ (p : Parted). saying (answered taken buffer at p.complete) (goes_on i.left)) (sym more);
      }

  cut_here : Envelopes s es → length x < length e → Cut x y (message e v ∷ es)
  unfolding answered
  cut_here on h =
      let less = parted_less (message e v) es (length x) h in
      let all : envelope (x ++ y) ≡ whole v = ap envelope (sym q) ∙ whole_behind e s v r in
      let short : envelope x ≡ incomplete = ap envelope (sym (take-append_seam x y)) ∙ cut_short (x ++ y) all (length x) (omega arith) in
      record {
        left = x;
        long = sym (ap (λ (p : Parted). p.unread) less);
        on = subst (Envelopes (x ++ y)) (sym (ap (λ (p : Parted). p.others) less)) (subst (λ (i : List ℕ). Envelopes i (message e v ∷ es)) q (one_envelope r l on));
        short = short;
        less = omega arith;
        tells =
            λ taken buffer at goes_on. none_whole taken buffer goes_on at x short
            ∙ ap (λ (p : Parted). saying (answered taken buffer at p.complete) (goes_on x)) (sym less);
      }

pub cut : {s : List ℕ} {es : List Message} → Envelopes s es → (x y : List ℕ) → s ≡ x ++ y → Cut x y es
cut no_envelope x y q = cut_none x y q
cut (one_envelope {bytes = e} {others = s} {v = v} {es = es} r l on) x y q =
    elim (dec_le (length e) (length x)) [
      | yes h ↦ cut_next e s x y v es r l q h (cut on (drop (length e) x) y (cut_drop e s x y q h))
      | no few ↦ cut_here e s x y v es r l q on (lt_of_not-le few)
    ]

-- whole envelopes before bytes of which none is whole
pub said_then : {s : List ℕ} {es : List Message} → Envelopes s es → (u : List ℕ) → envelope u ≡ incomplete → (taken : ℕ) (buffer : Buffer) (at : ℕ) (goes_on : List ℕ → Meaning)
    → envelopes_in taken buffer at 0 (s ++ u) goes_on ≡ saying (answered taken buffer at es) (goes_on u)
unfolding answered
said_then no_envelope u short taken buffer at goes_on = none_whole taken buffer goes_on at u short
said_then (one_envelope {bytes = e} {others = s} {v = v} {es = es} r l on) u short taken buffer at goes_on =
    let a : (e ++ s) ++ u ≡ e ++ (s ++ u) = append_assoc e s u in
    ap (λ (x : List ℕ). envelopes_in taken buffer at 0 x goes_on) a
    ∙ first_whole taken buffer goes_on at (e ++ (s ++ u)) v (whole_behind e (s ++ u) v r)
    ∙ ap (λ (n : ℕ). says (dated taken (envelope_of buffer (place at n) (take n (e ++ (s ++ u))) v)) (envelopes_in taken buffer (at + n) 0 (drop n (e ++ (s ++ u))) goes_on)) l
    ∙ ap₂ (λ (b x : List ℕ). says (dated taken (envelope_of buffer (place at (length e)) b v)) (envelopes_in taken buffer (at + length e) 0 x goes_on)) (take-append_seam e (s ++ u)) (drop-append_seam e (s ++ u))
    ∙ ap (says (dated taken (envelope_of buffer (place at (length e)) e v))) (said_then on u short taken buffer (at + length e) goes_on)

-- they are said, and nothing is left
all_said : {s : List ℕ} {es : List Message} → Envelopes s es → (taken : ℕ) (buffer : Buffer) (at : ℕ) (goes_on : List ℕ → Meaning)
    → envelopes_in taken buffer at 0 s goes_on ≡ saying (answered taken buffer at es) (goes_on [])
all_said {s} w taken buffer at goes_on = ap (λ (x : List ℕ). envelopes_in taken buffer at 0 x goes_on) (sym (append-nil s)) ∙ said_then w [] nothing_there taken buffer at goes_on

-- ---- a segment in front of the stream

-- its header, and what stands behind it
pub record Found (f : Form) (s : List ℕ) (self : Bool) (p : List ℕ) : Type 0 where
  pub head : Header
  pub header : header_at f s ≡ whole head
  pub payload : payload_at f s head ≡ whole (segment self p)
  pub long : head.payload ≡ length p
  pub enough : segment_length f head.payload ≤ length s

pub found : (f : Form) (s : List ℕ) (self : Bool) (p : List ℕ) → segment_at f s ≡ whole (segment self p) → Found f s self p
unfolding segment_at
found f s self p e = by_header (header_at f s) refl e
  where
    by_payload : (h : Header) → header_at f s ≡ whole h → {x : Front Refusal Segment} → Payloads f s h x → payload_at f s h ≡ x → x ≡ whole (segment self p) → Found f s self p
    by_payload h q (payload_cut l) i e = absurd (not_whole e)
    by_payload h q (payload_differs l c) i e = absurd (refused_not_whole e)
    by_payload h q (payload_good l c) i e =
        record {
          head = h;
          header = q;
          payload = i ∙ e;
          enough = l;
          long = sym (length_part s (header_length f) h.payload (omega arith)) ∙ ap (λ (g : Segment). length g.payload) (whole_value e);
        }

    by_header : (x : Front Refusal Header) → header_at f s ≡ x → if_whole x (payload_at f s) ≡ whole (segment self p) → Found f s self p
    by_header incomplete q e = absurd (not_whole e)
    by_header (refuses why) q e = absurd (refused_not_whole e)
    by_header (whole h) q e = by_payload h q (payload_case f s h) refl e

module _ (z : Lent) (s : List ℕ) (self : Bool) (p : List ℕ) (g : WholeSegment z.form s self p) (taken : ℕ) (pending stream : List ℕ) where
  abbrev i : Found z.form s self p
  i = found z.form s self p g.reads

  abbrev size : ℕ
  size = segment_length z.form (length p)

  same_header : header_at z.form (s ++ stream) ≡ whole i.head
  same_header = header_behind z.form s stream (header_found z.form s i.header).room ∙ i.header

  -- where it ends, or its header
  last_is : (t : Bool) → leb size z.segment ≡ t → judged_at z (s ++ stream) ≡ cond t size (header_length z.form)
  unfolding judged_at
  last_is t e =
      ap (last_of z) same_header
      ∙ ap (λ (n : ℕ). cond (leb (segment_length z.form n) z.segment) (segment_length z.form n) (header_length z.form)) i.long
      ∙ ap (λ (b : Bool). cond b size (header_length z.form)) e

  module _ (room : size ≤ z.segment) where
    seen : segment_in z (s ++ stream) ≡ whole (segment self p)
    seen =
        let n : segment_length z.form i.head.payload ≡ size = ap (segment_length z.form) i.long in
        roomy_header z (s ++ stream) i.head same_header (omega arith) ∙ payload_behind z.form s stream i.head (omega (arith, g.ends)) ∙ i.payload

    pub segment_first : meaning_from z taken pending [] (s ++ stream) ≡ by_segment z self p pending (taken + length s) (λ unread. meaning_from z (taken + length s) unread [] stream)
    unfolding segmentwise
    segment_first =
        segment_by_segment z taken pending (s ++ stream)
        ∙ ap₂ (λ (f : Front Refusal Segment) (n : ℕ). by_first z f taken pending (s ++ stream) n) seen (last_is true (le-leb size z.segment room) ∙ sym g.ends)
        ∙ ap (λ (l : List ℕ). by_segment z self p pending (taken + length s) (λ unread. meaning_from z (taken + length s) unread [] l)) (drop-append_seam s stream)

  pub segment_large : z.segment < size → meaning_from z taken pending [] (s ++ stream) ≡ refused_after segment_too_long (taken + header_length z.form)
  unfolding segmentwise
  segment_large large =
      let n : segment_length z.form i.head.payload ≡ size = ap (segment_length z.form) i.long in
      segment_by_segment z taken pending (s ++ stream)
      ∙ ap₂ (λ (f : Front Refusal Segment) (k : ℕ). by_first z f taken pending (s ++ stream) k) (large_header z (s ++ stream) i.head same_header (omega arith)) (last_is false (lt-leb size z.segment large))

-- ---- a self-contained segment, a run, a stream

module _ (z : Lent) where
  -- with room for it
  alone_said : {s p : List ℕ} {es : List Message} → WholeSegment z.form s true p → Envelopes p es → segment_length z.form (length p) ≤ z.segment → (taken : ℕ) (stream : List ℕ)
      → meaning_from z taken [] [] (s ++ stream) ≡ saying (answered (taken + length s) segment_buffer (header_length z.form) es) (meaning_from z (taken + length s) [] [] stream)
  alone_said {s} {p} g w room taken stream =
      segment_first z s true p g taken [] stream room
      ∙ all_said w (taken + length s) segment_buffer (header_length z.form) (λ unread. dropping (taken + length s) unread (meaning_from z (taken + length s) [] [] stream))

  joined_said : {s p : List ℕ} → WholeSegment z.form s false p → segment_length z.form (length p) ≤ z.segment → (taken : ℕ) (u stream : List ℕ) (t : Bool)
      → leb (length u + length p) z.reassembly ≡ t
      → meaning_from z taken u [] (s ++ stream)
      ≡ cond t (envelopes_in (taken + length s) reassembly_buffer 0 0 (u ++ p) (λ unread. meaning_from z (taken + length s) unread [] stream)) (refused_after reassembly_too_short (taken + length s))
  joined_said {s} {p} g room taken u stream t e =
      segment_first z s false p g taken u stream room
      ∙ ap (λ (b : Bool). cond b (envelopes_in (taken + length s) reassembly_buffer 0 0 (u ++ p) (λ unread. meaning_from z (taken + length s) unread [] stream)) (refused_after reassembly_too_short (taken + length s))) e

  -- where the sizes suffice there is room
  room_for : {s p : List ℕ} {self : Bool} → WholeSegment z.form s self p → (taken : ℕ) (u stream : List ℕ) → NeverShort (meaning_from z taken u [] (s ++ stream)) → segment_length z.form (length p) ≤ z.segment
  room_for {s} {p} {self} g taken u stream h =
      elim (dec_le (segment_length z.form (length p)) z.segment) [
        | yes room ↦ room
        | no large ↦ absurd ((subst NeverShort (segment_large z s self p g taken u stream (lt_of_not-le large)) h).0 refl)
      ]

  room_with : {s p : List ℕ} → WholeSegment z.form s false p → (taken : ℕ) (u stream : List ℕ) → NeverShort (meaning_from z taken u [] (s ++ stream)) → length u + length p ≤ z.reassembly
  room_with {s} {p} g taken u stream h =
      elim (dec_le (length u + length p) z.reassembly) [
        | yes room ↦ room
        | no large ↦ absurd ((subst NeverShort (joined_said g (room_for g taken u stream h) taken u stream false (lt-leb (length u + length p) z.reassembly (lt_of_not-le large))) h).1 refl)
      ]

  -- one segment of a run: the envelopes that are whole with it
  module _ {s p : List ℕ} (g : WholeSegment z.form s false p) (small : segment_length z.form (length p) ≤ z.segment) (u q : List ℕ) (room : length u + length p ≤ z.reassembly)
      {es : List Message} (c : Cut (u ++ p) q es) (taken : ℕ) (stream : List ℕ) where
    run_said : meaning_from z taken u [] (s ++ stream)
        ≡ saying (answered (taken + length s) reassembly_buffer 0 (parted (length u + length p) es).complete) (meaning_from z (taken + length s) c.left [] stream)
    run_said =
        joined_said g small taken u stream true (le-leb (length u + length p) z.reassembly room)
        ∙ c.tells (taken + length s) reassembly_buffer 0 (λ unread. meaning_from z (taken + length s) unread [] stream)
        ∙ ap (λ (n : ℕ). saying (answered (taken + length s) reassembly_buffer 0 (parted n es).complete) (meaning_from z (taken + length s) c.left [] stream)) (length-append u p)

  means_run : {ss : List (List ℕ)} {p : List ℕ} (run : Run z.form ss p) (taken : ℕ) (u stream : List ℕ) {es : List Message} → Envelopes (u ++ p) es → envelope u ≡ incomplete
      → NeverShort (meaning_from z taken u [] (joined ss ++ stream)) → meaning_from z taken u [] (joined ss ++ stream) ≡ saying (run_answered run taken (length u) es) (meaning_from z (taken + length (joined ss)) [] [] stream)
  unfolding joined
  means_run no_segment taken u stream {es} w h f =
      let d = envelopes_end (subst (λ (k : List ℕ). Envelopes k es) (append-nil u) w) h in
      ap₂ (λ (k : ℕ) (v : List ℕ). meaning_from z k v [] stream) (sym (add-zero taken)) d.0
  means_run (one_segment {bytes = s} {payload = p} {payloads = q} {others = ts} g run) taken u stream {es} w h f =
      let t : List ℕ = joined ts in
      let c : Cut (u ++ p) q es = cut w (u ++ p) q (sym (append_assoc u p q)) in
      let j : length (u ++ p) ≡ length u + length p = length-append u p in
      let a : (s ++ t) ++ stream ≡ s ++ (t ++ stream) = append_assoc s t stream in
      let k : NeverShort (meaning_from z taken u [] (s ++ (t ++ stream))) = subst (λ (l : List ℕ). NeverShort (meaning_from z taken u [] l)) a f in
      let first : List (Dated Said) = answered (taken + length s) reassembly_buffer 0 (parted (length u + length p) es).complete in
      let e : meaning_from z taken u [] (s ++ (t ++ stream)) ≡ saying first (meaning_from z (taken + length s) c.left [] (t ++ stream)) =
      run_said g (room_for g taken u (t ++ stream) k) u q (room_with g taken u (t ++ stream) k) c taken (t ++ stream)
      in
      let n : taken + length s + length t ≡ taken + length (s ++ t) = omega (arith, length-append s t) in
      ap (meaning_from z taken u []) a
      ∙ e
      ∙ ap (saying first) (means_run run (taken + length s) c.left stream c.on c.short (never_then first _ (subst NeverShort e k)))
      ∙ ap₂ (λ (i : ℕ) (m : Meaning). saying first (saying (run_answered run (taken + length s) i (parted (length (u ++ p)) es).others) m)) c.long (ap (λ (i : ℕ). meaning_from z i [] [] stream) n)
      ∙ ap (λ (i : ℕ). saying first (saying (run_answered run (taken + length s) (parted i es).unread (parted i es).others) (meaning_from z (taken + length (s ++ t)) [] [] stream))) j
      ∙ sym (saying_both first (run_answered run (taken + length s) (parted (length u + length p) es).unread (parted (length u + length p) es).others) (meaning_from z (taken + length (s ++ t)) [] [] stream))

  -- A legal stream, the lent sizes sufficing, means exactly its envelopes, and nothing is held.
  pub legal_means : {s : List ℕ} {taken : ℕ} {answers : List (Dated Said)} → Legal z.form taken s answers → NeverShort (meaning_from z taken [] [] s) → meaning_from z taken [] [] s ≡ exactly answers
  unfolding meaning_from
  legal_means legal_end h = refl
  legal_means (legal_alone {taken = taken} {bytes = s} {stream = t} {es = es} {later = later} g w on) h =
      let first : List (Dated Said) = answered (taken + length s) segment_buffer (header_length z.form) es in
      let e : meaning_from z taken [] [] (s ++ t) ≡ saying first (meaning_from z (taken + length s) [] [] t) = alone_said g w (room_for g taken [] t h) taken t in
      e ∙ ap (saying first) (legal_means on (never_then first _ (subst NeverShort e h))) ∙ sym (saying_both first later (holding (held [] [])))
  legal_means (legal_run {taken = taken} {segments = ss} {stream = t} {es = es} {later = later} run w on) h =
      let s : List ℕ = joined ss in
      let first : List (Dated Said) = run_answered run taken 0 es in
      let e : meaning_from z taken [] [] (s ++ t) ≡ saying first (meaning_from z (taken + length s) [] [] t) = means_run run taken [] t w nothing_there h in
      e ∙ ap (saying first) (legal_means on (never_then first _ (subst NeverShort e h))) ∙ sym (saying_both first later (holding (held [] [])))

  -- ---- sizes that fit suffice

  fitting : {s p : List ℕ} {self : Bool} → WholeSegment z.form s self p → length s ≤ z.segment → segment_length z.form (length p) ≤ z.segment
  fitting g h = subst (λ (n : ℕ). n ≤ z.segment) g.ends h

  run_suffices : {ss : List (List ℕ)} {p : List ℕ} (run : Run z.form ss p) → AllWithin z.segment ss → (taken : ℕ) (u stream : List ℕ) {es : List Message} → Envelopes (u ++ p) es → envelope u ≡ incomplete
      → length (u ++ p) ≤ z.reassembly → ((k : ℕ) → k ≡ taken + length (joined ss) → NeverShort (meaning_from z k [] [] stream)) → NeverShort (meaning_from z taken u [] (joined ss ++ stream))
  unfolding joined
  run_suffices no_segment r taken u stream {es} w h l f =
      let d = envelopes_end (subst (λ (k : List ℕ). Envelopes k es) (append-nil u) w) h in
      subst (λ (v : List ℕ). NeverShort (meaning_from z taken v [] stream)) (sym d.0) (f taken (sym (add-zero taken)))
  run_suffices (one_segment {bytes = s} {payload = p} {payloads = q} {others = ts} g run) r taken u stream {es} w h l f =
      let t : List ℕ = joined ts in
      let c : Cut (u ++ p) q es = cut w (u ++ p) q (sym (append_assoc u p q)) in
      let l₁ : length (u ++ (p ++ q)) ≡ length u + length (p ++ q) = length-append u (p ++ q) in
      let l₂ : length (p ++ q) ≡ length p + length q = length-append p q in
      let l₃ : length (c.left ++ q) ≡ length c.left + length q = length-append c.left q in
      let l₄ : length (u ++ p) ≡ length u + length p = length-append u p in
      let l₅ : length (s ++ t) ≡ length s + length t = length-append s t in
      subst NeverShort (sym (ap (meaning_from z taken u []) (append_assoc s t stream) ∙ run_said g (fitting g r.0) u q (omega arith) c taken (t ++ stream)))
      (then_never (answered (taken + length s) reassembly_buffer 0 (parted (length u + length p) es).complete) _
      (run_suffices run r.1 (taken + length s) c.left stream c.on c.short (omega (arith, c.less)) (λ k e. f k (e ∙ let i : taken + length s + length t ≡ taken + length (s ++ t) = omega arith in i))))

  pub fits_suffices : {s : List ℕ} {taken : ℕ} {answers : List (Dated Said)} (g : Legal z.form taken s answers) → Fits z g → NeverShort (meaning_from z taken [] [] s)
  unfolding meaning_from
  fits_suffices legal_end r = tt
  fits_suffices (legal_alone {taken = taken} {bytes = s} {stream = t} {es = es} g w on) r =
      subst NeverShort (sym (alone_said g w (fitting g r.0) taken t)) (then_never (answered (taken + length s) segment_buffer (header_length z.form) es) _ (fits_suffices on r.1))
  fits_suffices (legal_run {taken = taken} {stream = t} run w on) r =
      run_suffices run r.0 taken [] t w nothing_there r.1 (λ k e. subst (λ (i : ℕ). NeverShort (meaning_from z i [] [] t)) (sym e) (fits_suffices on r.2))
