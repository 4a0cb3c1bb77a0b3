-- What the writers of this library wrote, packed or in pieces, is legal, and comes back as the fields given. Assumes nothing.
use Prim.Native.Nat.{ℕ, ◌+◌, ◌-◌, ◌≤◌}
use mathlib.Core.Path.{◌≡◌, refl, sym, ap, ◌∙◌, subst}
use mathlib.Core.Bool.{true}
use mathlib.Core.List.{List, [], ◌∷◌, ◌++◌, append_assoc, append-nil}
use native.Mathlib.Decide.{dec_le}
use native.Mathlib.Nat.{zero-add, lt_of_not-le}
use native.Mathlib.Omega.{arith}
use lib.ListN.{length, take, length-append}
use lib.Seq.{take-length}
use Rattle.basis.specs.Front.{incomplete, whole}
use Rattle.basis.specs.Machine.{Dated}
use Rattle.types.specs.Write.{joined}
use Rattle.types.specs.ThereAndBack.{Holds, Stands}
use Rattle.types.proofs.Holds.{accepted}
use Rattle.segment.specs.Header.{Form, header_length}
use Rattle.segment.specs.Segment.{WholeSegment, Run, no_segment, one_segment}
use Rattle.frame.specs.Envelope.{Envelope, envelope}
use Rattle.frame.specs.Write.{envelope_bytes, envelope_check}
use Rattle.frame.specs.ThereAndBack.{ReadBack}
use Rattle.frame.proofs.WrittenRead.{written_back}
use Rattle.frame_encoder.specs.Writer.{Writer, fresh, wrote, done, add_check, finish_check, add, finish}
use Rattle.frame_encoder.specs.Runs.{Added, none_added, one_added}
use Rattle.frame_encoder.proofs.Checked.{AddFine, add_fine, FinishFine, finish_fine}
use Rattle.frame_encoder.proofs.Laid.{segment_length_lem}
use Rattle.frame_encoder.specs.Runs.{Sent}
use Rattle.frame_encoder.proofs.Runs.{passed, packed_segment, split_joins}
use Rattle.frame_decoder.specs.Reader.{Buffer, segment_buffer, reassembly_buffer}
use Rattle.stream.specs.Meaning.{Lent, Said}
use Rattle.stream.specs.Legal.{Message, message, Envelopes, no_envelope, one_envelope, answered, Parted, parted, run_answered, Legal, legal_end, legal_alone, legal_run, Fits}
use Rattle.stream.specs.Sent.{Given, Written, WrittenAll, none_written, one_written, Sends, nothing_sent, sends_packed, sends_pieces, SendsFit, Back, AllBack}
use Rattle.stream.proofs.Envelopes.{nothing_there}
use Rattle.stream.proofs.Legal.{envelopes_end, parted_none, parted_more, parted_less, Cut, cut}

-- ---- envelopes

-- what the writer wrote is one whole envelope, with the fields given
record Read (g : Given) (bytes : List ℕ) : Type 0 where
  v : Envelope
  reads : envelope bytes ≡ whole v
  size : v.size ≡ length bytes
  back : Back bytes v g

read_written : (g : Given) (bytes : List ℕ) → Written g bytes → Read g bytes
read_written g bytes w =
    let s : Stands (envelope_check g.header g.content) 0 (envelope_bytes g.header g.content) w.left w.size = accepted (envelope_check g.header g.content) w.accepted in
    let b : List ℕ = envelope_bytes g.header g.content in
    let n : w.size ≡ length b = s.end ∙ zero-add (length b) in
    let is : bytes ≡ b = w.is ∙ ap (λ (k : ℕ). take k w.left) n ∙ s.holds.is in
    let there : Holds bytes 0 b = subst (λ (x : List ℕ). Holds x 0 b) (sym is) (record { room = omega (arith, zero-add (length b)); is = take-length b }) in
    let r : ReadBack bytes g.header g.content = written_back g.header g.content s.nothing w.number bytes there in
    record {
      v = r.e;
      reads = r.reads;
      size = r.size ∙ sym (ap length is);
      back = record { bytes_are = is; header = r.header; id = r.id; warnings = r.warnings; body = r.body };
    }

-- ---- envelopes that were given

abbrev Backs : List Message → List Given → Type 0
Backs [] [] = Unit {0}
Backs [] (g ∷ gs) = ⊥
Backs (e ∷ es) [] = ⊥
Backs (e ∷ es) (g ∷ gs) = Back e.bytes e.reading g × Backs es gs

record Told (s : List ℕ) (gs : List Given) : Type 0 where
  es : List Message
  envelopes : Envelopes s es
  back : Backs es gs

all_told : (gs : List Given) (bs : List (List ℕ)) → WrittenAll gs bs → Told (joined bs) gs
unfolding joined
all_told [] [] none_written = record { es = []; envelopes = no_envelope; back = tt }
all_told [] (b ∷ bs) w = elim w [ ]
all_told (g ∷ gs) [] w = elim w [ ]
all_told (g ∷ gs) (b ∷ bs) (one_written w ws) =
    let r : Read g b = read_written g b w in
    let i : Told (joined bs) gs = all_told gs bs ws in
    record { es = message b r.v ∷ i.es; envelopes = one_envelope r.reads r.size i.envelopes; back = (r.back, i.back) }

one_told : (g : Given) (b : List ℕ) → Written g b → Told b (g ∷ [])
unfolding joined
one_told g b w = subst (λ (s : List ℕ). Told s (g ∷ [])) (append-nil b) (all_told (g ∷ []) (b ∷ []) (one_written w none_written))

-- as they are answered
answered_back : (due : ℕ) (buffer : Buffer) (at : ℕ) (es : List Message) (gs : List Given) → Backs es gs → AllBack (answered due buffer at es) gs
unfolding answered
answered_back due buffer at [] [] b = tt
answered_back due buffer at [] (g ∷ gs) b = absurd b
answered_back due buffer at (e ∷ es) [] b = absurd b
answered_back due buffer at (e ∷ es) (g ∷ gs) b = (b.0, answered_back due buffer (at + length e.bytes) es gs b.1)

both_back : (first later : List (Dated Said)) (gs hs : List Given) → AllBack first gs → AllBack later hs → AllBack (first ++ later) (gs ++ hs)
both_back [] later [] hs a b = b
both_back [] later (g ∷ gs) hs a b = absurd a
both_back (x ∷ first) later [] hs a b = absurd a
both_back (x ∷ first) later (g ∷ gs) hs a b = (a.0, both_back first later gs hs a.1 b)

-- those of them that are whole within n bytes, and the others
record Halves (p : Parted) (gs : List Given) : Type 0 where
  first : List Given
  later : List Given
  both : gs ≡ first ++ later
  whole_back : Backs p.complete first
  others_back : Backs p.others later

halves : (n : ℕ) (es : List Message) (gs : List Given) → Backs es gs → Halves (parted n es) gs
halves n [] gs b = subst (λ (p : Parted). Halves p gs) (sym (parted_none n)) (record { first = []; later = gs; both = refl; whole_back = tt; others_back = b })
halves n (e ∷ es) [] b = absurd b
halves n (e ∷ es) (g ∷ gs) b = by (dec_le (length e.bytes) n) (halves (n - length e.bytes) es gs b.1)
  where
    by : Dec (length e.bytes ≤ n) → Halves (parted (n - length e.bytes) es) gs → Halves (parted n (e ∷ es)) (g ∷ gs)
    by (yes h) i =
        subst (λ (p : Parted). Halves p (g ∷ gs)) (sym (parted_more e es n h))
        (record { first = g ∷ i.first; later = i.later; both = ap (λ (k : List Given). g ∷ k) i.both; whole_back = (b.0, i.whole_back); others_back = i.others_back })
    by (no few) i = subst (λ (p : Parted). Halves p (g ∷ gs)) (sym (parted_less e es n (lt_of_not-le few))) (record { first = []; later = g ∷ gs; both = refl; whole_back = tt; others_back = b })

nothing_given : (es : List Message) (gs : List Given) → es ≡ [] → Backs es gs → AllBack [] gs
nothing_given es [] e b = tt
nothing_given es (g ∷ gs) e b = subst (λ (x : List Message). Backs x (g ∷ gs)) e b

run_back : {f : Form} {ss : List (List ℕ)} {p : List ℕ} (run : Run f ss p) (taken : ℕ) (u : List ℕ) (es : List Message) (gs : List Given) → Envelopes (u ++ p) es → envelope u ≡ incomplete → Backs es gs
    → AllBack (run_answered run taken (length u) es) gs
run_back no_segment taken u es gs w h b = nothing_given es gs (envelopes_end (subst (λ (k : List ℕ). Envelopes k es) (append-nil u) w) h).1 b
run_back (one_segment {bytes = s} {payload = p} {payloads = q} g run) taken u es gs w h b =
    let c : Cut (u ++ p) q es = cut w (u ++ p) q (sym (append_assoc u p q)) in
    let n : ℕ = length u + length p in
    let j : length (u ++ p) ≡ n = length-append u p in
    let i : Halves (parted n es) gs = halves n es gs b in
    let on : AllBack (run_answered run (taken + length s) (length c.left) (parted n es).others) i.later =
    run_back run (taken + length s) c.left (parted n es).others i.later (subst (λ (k : ℕ). Envelopes (c.left ++ q) (parted k es).others) j c.on) c.short i.others_back
    in
    subst (AllBack (run_answered (one_segment g run) taken (length u) es)) (sym i.both)
    (both_back (answered (taken + length s) reassembly_buffer 0 (parted n es).complete) (run_answered run (taken + length s) (parted n es).unread (parted n es).others) i.first i.later
    (answered_back (taken + length s) reassembly_buffer 0 (parted n es).complete i.first i.whole_back)
    (subst (λ (k : ℕ). AllBack (run_answered run (taken + length s) k (parted n es).others) i.later) (c.long ∙ ap (λ (k : ℕ). (parted k es).unread) j) on))

-- ---- segments

-- an output into which something was written has room for a header
header_room : (f : Form) (out : List ℕ) (es : List (List ℕ)) {w v : Writer} {mid end : List ℕ} {size taken : ℕ} → Added (fresh f) out es w mid → finish w mid ≡ done v (wrote size taken) end
    → header_length f ≤ length out
unfolding finish add
header_room f out [] none_added e =
    let ok : FinishFine (fresh f) (length out) = finish_fine (fresh f) (length out) (passed (finish_check (fresh f) (length out)) (fresh f) out _ e).0 in
    omega (arith, ok.enough)
header_room f out (x ∷ es) (one_added q more) e =
    let ok : AddFine (fresh f) (length out) (length x) = add_fine (fresh f) (length out) (length x) (passed (add_check (fresh f) (length out) (length x)) (fresh f) out _ q).0 in
    omega (arith, ok.enough)

-- ---- the stream

module _ (z : Lent) where
  -- Legal; each envelope comes back as it was given; and buffers in which each segment, and each envelope in pieces, has room suffice.
  pub record Comes (taken : ℕ) (s : List ℕ) (gs : List Given) (fit : Type 0) : Type 0 where
    pub answers : List (Dated Said)
    pub legal : Legal z.form taken s answers
    pub back : AllBack answers gs
    pub fits : fit → Fits z legal

  pub sent_comes : {s : List ℕ} {gs : List Given} (taken : ℕ) (sends : Sends z.form s gs) → Comes taken s gs (SendsFit z sends)
  sent_comes taken nothing_sent = record { answers = []; legal = legal_end; back = tt; fits = λ k. tt }
  sent_comes taken (sends_packed {gs = gs} {later = later} {envelopes = es} {out = out} {end = end} {size = size} ws added finished on) =
      let s : Sent z.form true (joined es) out end size = (packed_segment z.form out es (header_room z.form out es added finished) added finished).0 in
      let g : WholeSegment z.form (take size end) true (joined es) = s.goes_out in
      let t : Told (joined es) gs = all_told gs es ws in
      let n : ℕ = taken + length (take size end) in
      let i = sent_comes n on in
      let first : List (Dated Said) = answered n segment_buffer (header_length z.form) t.es in
      record {
        answers = first ++ i.answers;
        legal = legal_alone g t.envelopes i.legal;
        back = both_back first i.answers gs later (answered_back n segment_buffer (header_length z.form) t.es gs t.back) i.back;
        fits = λ k. (omega (arith, k.0, g.ends, s.size_is, segment_length_lem z.form true (joined es)), i.fits k.1);
      }
  sent_comes taken (sends_pieces {g = g} {later = later} {envelope = e} {segments = ss} w ps on) =
      let r : Run z.form ss e = split_joins ps in
      let t : Told e (g ∷ []) = one_told g e w in
      let i = sent_comes (taken + length (joined ss)) on in
      record {
        answers = run_answered r taken 0 t.es ++ i.answers;
        legal = legal_run r t.envelopes i.legal;
        back = both_back (run_answered r taken 0 t.es) i.answers (g ∷ []) later (run_back r taken [] t.es (g ∷ []) t.envelopes nothing_there t.back) i.back;
        fits = λ k. (k.0, k.1, i.fits k.2);
      }
