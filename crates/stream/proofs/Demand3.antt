-- Demand 3 as a whole: docs/RULES.md, 10.3. Assumes nothing.
use Prim.Native.Nat.{ℕ, ◌+◌, ◌-◌, ◌≤◌}
use mathlib.Core.Path.{◌≡◌, sym, ap, ap₂, ◌∙◌}
use mathlib.Core.Bool.{Bool, true, cond}
use mathlib.Core.List.{List, []}
use native.Mathlib.Omega.{arith}
use lib.ListN.{length}
use lib.Seq.{length-take-le}
use Rattle.basis.specs.Lists.{joined}
use Rattle.basis.specs.Machine.{Dated, holding}
use Rattle.types.proofs.BigEndian.{length_part}
use Rattle.segment.specs.Header.{Form}
use Rattle.frame_decoder.specs.Reader.{Phase, in_header, in_rest, in_segment, in_reassembly, stopped, Counts, counts_in, counts_of, in_range, held_in, held, admissible}
use Rattle.frame_decoder.specs.Private.Inside.{Roomy}
use Rattle.frame_decoder.proofs.Steps.{roomy}
use Rattle.stream.specs.Meaning.{lent, Said, held as held_as, Meaning}
use Rattle.stream.specs.Caller.{State, holds, HearsOf, heard_of, Asked}
use Rattle.stream.specs.Legal.{Legal, exactly, Suffices}
use Rattle.stream.specs.Sent.{Given, Sends, SendsFit, AllBack}
use Rattle.stream.specs.Collect.{Tape, blank, collected, Ending, held_end, end_of, HeardAs}
use Rattle.stream.specs.Private.Inside.{Ready}
use Rattle.stream.proofs.Calls.{ready_admissible}
use Rattle.stream.proofs.Pieces.{heard_all, pieces_do_not_matter, pieces_are_heard}
use Rattle.stream.proofs.Legal.{legal_means, fits_suffices}
use Rattle.stream.proofs.Sent.{sent_comes}
use Rattle.stream.proofs.Turns.{end_saying}

-- a legal stream, the sizes sufficing, is heard as exactly its answers
legal_heard : (f : Form) (seg re : List ℕ) {stream : List ℕ} {answers : List (Dated Said)} → Legal f 0 stream answers → Suffices f (length seg) (length re) stream
    → heard_of f (length seg) (length re) stream ≡ exactly answers
legal_heard f seg re {stream} legal s = heard_all f seg re s.range stream ∙ legal_means (lent f (length seg) (length re)) legal s.never

module _ (f : Form) (seg re : List ℕ) (pieces : List (List ℕ)) (asked : Asked (in_range (length seg) (length re)) pieces) where
  -- What a caller hears of a fresh reader over two buffers, whatever their lengths and whatever they hold, and whatever pieces it gives: what the joined stream means, each answer with its place, its bytes and its
  -- reading, after the stream's own number of bytes; then the same refusal after the same number of bytes, or the same bytes held. If the stream is legal and the sizes suffice, exactly its envelopes, and nothing is held.
  pub demand_3 : {m : Meaning} → HearsOf f seg re pieces m
      → (m ≡ heard_of f (length seg) (length re) (joined pieces))
      × ((answers : List (Dated Said)) → Legal f 0 (joined pieces) answers → Suffices f (length seg) (length re) (joined pieces) → m ≡ exactly answers)
  demand_3 h = let same = pieces_do_not_matter f seg re pieces asked h in (same, λ answers legal s. same ∙ legal_heard f seg re legal s)

  -- And it is heard: the caller's loop comes to its end.
  pub demand_3_heard : HearsOf f seg re pieces (heard_of f (length seg) (length re) (joined pieces))
  demand_3_heard = pieces_are_heard f seg re pieces asked

  -- What the writers of this library wrote comes back as the fields given, if the lengths are in range, each segment that was written fits the segment buffer, and each envelope that went out in pieces the other.
  pub demand_3_sent : {m : Meaning} {gs : List Given} → HearsOf f seg re pieces m → in_range (length seg) (length re) ≡ true → (sends : Sends f (joined pieces) gs)
      → SendsFit (lent f (length seg) (length re)) sends → (answers : List (Dated Said)) × (m ≡ exactly answers) × AllBack answers gs
  demand_3_sent h range sends fit =
      let z = lent f (length seg) (length re) in
      let c = sent_comes z 0 sends in
      (c.answers, (demand_3 h).1 c.answers c.legal (record { range = range; never = fits_suffices z c.legal (c.fits fit) }), c.back)

-- The same stream in other pieces, over other buffers of the same lengths, is heard in the same way.
pub cuts_agree : (f : Form) (seg seg' re re' : List ℕ) (pieces pieces' : List (List ℕ)) {m m' : Meaning} → Asked (in_range (length seg) (length re)) pieces → Asked (in_range (length seg') (length re')) pieces'
    → length seg' ≡ length seg → length re' ≡ length re → joined pieces' ≡ joined pieces → HearsOf f seg re pieces m → HearsOf f seg' re' pieces' m' → m ≡ m'
cuts_agree f seg seg' re re' pieces pieces' asked asked' a b same h h' =
    (demand_3 f seg re pieces asked h).0
    ∙ sym (ap₂ (λ (i j : ℕ). heard_of f i j (joined pieces)) a b)
    ∙ sym (ap (heard_of f (length seg') (length re')) same)
    ∙ sym (demand_3 f seg' re' pieces' asked' h').0

-- The same of the caller in code: of a legal stream, the sizes sufficing, `collect` writes down exactly its envelopes, as far as there is room, and nothing is held.
pub collected_legal : (f : Form) (seg re stream envelopes marks : List ℕ) {t : Tape} {end : Ending} {S R : List ℕ} → HeardAs f seg re stream envelopes marks t end S R
    → (answers : List (Dated Said)) → Legal f 0 stream answers → Suffices f (length seg) (length re) stream → (t ≡ collected (exactly answers) (blank envelopes marks)) × (end ≡ held_end 0 [] 0 [])
collected_legal f seg re stream envelopes marks h answers legal s =
    let same = legal_heard f seg re legal s in
    (h.tells ∙ ap (λ (m : Meaning). collected m (blank envelopes marks)) same, h.ends ∙ ap end_of same ∙ end_saying answers (holding (held_as [] [])))

-- The bytes held are as many as `FrameDecoder::held` says.
pub held_bytes : (s : State) → Ready s → length (holds s).segment + length (holds s).pending ≡ held s.reader
unfolding held
held_bytes s t =
    let c : Counts = counts_of s.reader in
    let room : Roomy (length s.segment) c = roomy t.ok in
    ap₂ (λ (i j : ℕ). i + j) (length-take-le c.there s.segment (omega (arith, room.0, room.1)))
    (length_part s.reassembly c.from (c.pending - c.from) (omega (arith, t.ok.counts.from, most s.reader.form s.reader.pending s.reader.phase, t.ok.held)))
    ∙ sym (ap (λ (b : Bool). cond b (held_in c) 0) (ap₂ (admissible s.reader) (sym t.segment) (sym t.reassembly) ∙ ready_admissible s.reader s.segment s.reassembly t))
  where
    most : (f : Form) (p : ℕ) (q : Phase) → (counts_in f p q).pending ≤ p
    most f p (in_header n) = omega arith
    most f p (in_rest n len self) = omega arith
    most f p (in_segment len at) = omega arith
    most f p (in_reassembly at) = omega arith
    most f p (stopped why) = omega arith
