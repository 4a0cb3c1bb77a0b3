-- Each reader of `specs/Shut.antt` is shut out: P5 has to come out, then P6, and what is taken and left over are lengths of what was lent. Assumes nothing.
use Prim.Native.Nat.{ℕ, ◌+◌, ◌≤◌, ◌<◌}
use mathlib.Core.Path.{◌≡◌, refl, sym, ap, ◌∙◌, subst, fun_ext}
use mathlib.Core.Bool.{Bool, true, false, cond}
use mathlib.Core.List.{List, [], ◌∷◌, ◌++◌, append-nil}
use native.Mathlib.Nat.{zero-add}
use native.Mathlib.Omega.{arith}
use borrow.Author.Tests.{ne_eqb}
use lib.ListN.{length, drop, replicate}
use lib.Seq.{take-length}
use Rattle.basis.specs.Front.{incomplete, whole}
use Rattle.basis.specs.Lists.{joined}
use Rattle.basis.specs.Machine.{hands_on, Step, step, Dated, dated, says, refused_after, holding, saying, used_up, Uses, by_more, after_one, Hears, all_given, one_used, one_refused}
use Rattle.basis.proofs.Machine.{Does}
use Rattle.refusal.specs.Refusal.{Refusal}
use Rattle.types.specs.Number.{be, be_from}
use Rattle.types.specs.Read.{Place, place}
use Rattle.segment.specs.Header.{Form, short, header_length}
use Rattle.segment.specs.Segment.{segment_length, segment_bytes, max_payload, WholeSegment}
use Rattle.segment.proofs.WrittenRead.{segment_back}
use Rattle.frame.specs.Header.{header_of, known_version, known_opcode, has_id, has_warnings}
use Rattle.frame.specs.Envelope.{declared, sized, size_of, Envelope, after_id, warnings_at, within, inside, envelope}
use Rattle.frame_encoder.proofs.Laid.{segment_length_lem}
use Rattle.frame_decoder.specs.Reader.{Reader, fresh, Buffer, segment_buffer, Answer, envelope_at, leftover, more, refused, admissible, in_range}
use Rattle.frame_decoder.specs.Call.{Outcome, call}
use Rattle.stream.specs.Meaning.{Lent, lent, Said, envelope_of, leftover_of, Meaning, dropping, meaning_from}
use Rattle.stream.specs.Caller.{State, state, reply_of, step_of, reads, holds, start, heard_of, Asked}
use Rattle.stream.specs.Collect.{answers_of}
use Rattle.stream.specs.Legal.{Message, message, Envelopes, no_envelope, one_envelope, answered, Legal, legal_end, legal_alone, exactly}
use Rattle.stream.specs.Shut.{Reads, Keeps, machine_of, dates_of, RefusesEverything, NamesOneEnvelope, AsksForever, next, OnlyNods, P5, reading_of_p5, P6, reading_of_p6}
use Rattle.stream.proofs.Calls.{admissible_ready, call_refused}
use Rattle.stream.proofs.Legal.{fits_suffices, segment_first, said_then}
use Rattle.stream.proofs.Pieces.{reader, lawful, pieces_do_not_matter, pieces_are_heard}
use Rattle.stream.proofs.Demand3.{demand_3}

-- ---- answers are told apart

answer_tag : Answer → ℕ
answer_tag more = 0
answer_tag (refused why) = 1
answer_tag (leftover n) = 2
answer_tag (envelope_at buffer at e) = 3

-- what was heard of an answer says the answer
named : {buffer : Buffer} {at : Place} {bytes : List ℕ} {v : Envelope} (answer : Answer) (seg re : List ℕ) → reply_of answer seg re ≡ hands_on (envelope_of buffer at bytes v) → answer ≡ envelope_at buffer at v
named (envelope_at buffer at e) seg re q = cc
named (leftover n) seg re q = let z : ◌≡◌ {A = ℕ} 0 1 = cc in let f : ⊥ = omega arith in absurd f
named more seg re q = let z : ◌≡◌ {A = ℕ} 0 1 = cc in let f : ⊥ = omega arith in absurd f
named (refused why) seg re q = let z : ◌≡◌ {A = ℕ} 0 1 = cc in let f : ⊥ = omega arith in absurd f

-- ---- what is heard of one piece, call by call

answers_said : (xs : List (Dated Said)) (m : Meaning) → answers_of (saying xs m) ≡ xs ++ answers_of m
answers_said [] m = refl
answers_said (x ∷ xs) m = ap (λ (l : List (Dated Said)). x ∷ l) (answers_said xs m)

stops : Meaning → ℕ
stops (says x m) = stops m
stops (refused_after why taken) = 1
stops (holding h) = 0

stops_said : (xs : List (Dated Said)) (m : Meaning) → stops (saying xs m) ≡ stops m
unfolding stops
stops_said [] m = refl
stops_said (x ∷ xs) m = stops_said xs m

record Used (s : State) (piece : List ℕ) (xs : List (Dated Said)) : Type 0 where
  end : ℕ
  last : State
  uses : Uses reads s 0 piece xs used_up end last

used : {s : State} {piece : List ℕ} {m : Meaning} → Hears reads holds s 0 (piece ∷ []) m → (ys : List (Dated Said)) → m ≡ exactly ys → Used s piece ys
unfolding stops
used {s} {piece} (one_used {t = t} {n = n} {xs = xs} u all_given) ys q =
    let same : xs ≡ ys = sym (append-nil xs) ∙ sym (answers_said xs (holding (holds t))) ∙ ap answers_of q ∙ answers_said ys _ ∙ append-nil ys in
    record { end = n; last = t; uses = subst (λ (l : List (Dated Said)). Uses reads s 0 piece l used_up n t) same u }
used (one_refused {n = n} {xs = xs} {e = e} u) ys q =
    absurd (let z : ◌≡◌ {A = ℕ} 1 0 = sym (stops_said xs (refused_after e n)) ∙ ap stops q ∙ stops_said ys _ in omega arith)

-- two answers are two calls
record Two (s : State) (piece : List ℕ) (x y : Said) : Type 0 where
  n : ℕ
  t : State
  first : reads s piece ≡ step (hands_on x) n t
  m : ℕ
  u : State
  second : reads t (drop n piece) ≡ step (hands_on y) m u

two : {s t : State} {piece : List ℕ} {x y : Dated Said} {end : ℕ} → Uses reads s 0 piece (x ∷ y ∷ []) used_up end t → Two s piece x.what y.what
two (after_one {t = t} {n = n} e (after_one {t = u} {n = m} f (by_more g))) = record { n = n; t = t; first = e; m = m; u = u; second = f }

-- ---- P5, then P6

-- what the definitions say of them
P5-reads : envelope P5 ≡ whole reading_of_p5
unfolding envelope size_of sized declared header_of known_version known_opcode has_id has_warnings after_id warnings_at within inside be be_from
P5-reads = refl

P6-reads : envelope P6 ≡ whole reading_of_p6
unfolding envelope size_of sized declared header_of known_version known_opcode has_id has_warnings after_id warnings_at within inside be be_from
P6-reads = refl

both_envelopes : Envelopes (P5 ++ P6) (message P5 reading_of_p5 ∷ message P6 reading_of_p6 ∷ [])
both_envelopes = one_envelope {bytes = P5} {others = P6} P5-reads refl (one_envelope {bytes = P6} {others = []} P6-reads refl no_envelope)

-- the segment of a payload is whole
pub whole_segment : (f : Form) (self : Bool) (p : List ℕ) → length p ≤ max_payload → WholeSegment f (segment_bytes f self p) self p
whole_segment f self p small =
    let s : List ℕ = segment_bytes f self p in
    record { reads = segment_back f self p small s (record { room = omega (arith, zero-add (length s)); is = take-length s }); ends = segment_length_lem f self p }

module _ (f : Form) (seg re : List ℕ) (range : in_range (length seg) (length re) ≡ true) (room : segment_length f 18 ≤ length seg) where
  abbrev line : List ℕ
  line = segment_bytes f true (P5 ++ P6)

  abbrev answers : List (Dated Said)
  answers =
      dated (0 + length line) (envelope_of segment_buffer (place (header_length f) 9) P5 reading_of_p5)
      ∷ dated (0 + length line) (envelope_of segment_buffer (place (header_length f + 9) 9) P6 reading_of_p6)
      ∷ []

  line_used : Used (start f seg re) line answers
  unfolding joined answered
  line_used =
      let z = lent f (length seg) (length re) in
      let asked : Asked (in_range (length seg) (length re)) (line ∷ []) = subst (λ (b : Bool). Asked b (line ∷ [])) (sym range) tt in
      let g : Legal f 0 (line ++ []) answers = legal_alone (whole_segment f true (P5 ++ P6) (omega arith)) both_envelopes legal_end in
      let h = pieces_are_heard f seg re (line ∷ []) asked in
      used h answers ((demand_3 f seg re (line ∷ []) asked h).1 answers g (record { range = range; never = fits_suffices z g (subst (λ (n : ℕ). n ≤ length seg) (sym (segment_length_lem f true (P5 ++ P6))) room, tt) }))

  calls : Two (start f seg re) line (envelope_of segment_buffer (place (header_length f) 9) P5 reading_of_p5) (envelope_of segment_buffer (place (header_length f + 9) 9) P6 reading_of_p6)
  calls = two line_used.uses

  abbrev first_outcome : Outcome
  first_outcome = call (fresh f (length seg) (length re)) seg re line

  -- the first call names P5
  pub first_call : first_outcome.answer ≡ envelope_at segment_buffer (place (header_length f) 9) reading_of_p5
  first_call = named first_outcome.answer first_outcome.segment first_outcome.reassembly (ap (λ (o : Step State Said Refusal). o.reply) calls.first)

  -- the second, with the rest of the piece and what the first left untouched, P6
  pub second_call : (call first_outcome.reader first_outcome.segment first_outcome.reassembly (drop first_outcome.taken line)).answer ≡ envelope_at segment_buffer (place (header_length f + 9) 9) reading_of_p6
  second_call =
      let o = call first_outcome.reader first_outcome.segment first_outcome.reassembly (drop first_outcome.taken line) in
      named o.answer o.segment o.reassembly
      (ap (λ (i : Step State Said Refusal). (reads i.next (drop i.taken line)).reply) calls.first ∙ ap (λ (i : Step State Said Refusal). i.reply) calls.second)

-- ---- shut out

-- over buffers of zeros
abbrev seg₀ : List ℕ
seg₀ = replicate 64 0

abbrev re₀ : List ℕ
re₀ = replicate 9 0

abbrev line₀ : List ℕ
line₀ = segment_bytes short true (P5 ++ P6)

abbrev r₀ : Reader
r₀ = fresh short 64 9

within_range : in_range 64 9 ≡ true
unfolding in_range
within_range = refl

module _ (R : Reads) (keeps : Keeps R) where
  -- its first answer there is P5, its next P6
  first_answer : (R r₀ seg₀ re₀ line₀).answer ≡ envelope_at segment_buffer (place 6 9) reading_of_p5
  first_answer = ap (λ (o : Outcome). o.answer) (keeps r₀ seg₀ re₀ line₀) ∙ first_call short seg₀ re₀ within_range (omega arith)

  second_answer : (next R r₀ seg₀ re₀ line₀).answer ≡ envelope_at segment_buffer (place 15 9) reading_of_p6
  second_answer =
      let o = call r₀ seg₀ re₀ line₀ in
      ap (λ (i : Outcome). (R i.reader i.segment i.reassembly (drop i.taken line₀)).answer) (keeps r₀ seg₀ re₀ line₀)
      ∙ ap (λ (i : Outcome). i.answer) (keeps o.reader o.segment o.reassembly (drop o.taken line₀))
      ∙ second_call short seg₀ re₀ within_range (omega arith)

  pub not_refusing_everything : RefusesEverything R → ⊥
  unfolding answer_tag
  not_refusing_everything w =
      let i = w r₀ seg₀ re₀ line₀ in
      let z : ◌≡◌ {A = ℕ} 1 3 = ap answer_tag (sym i.1 ∙ first_answer) in
      omega arith

  pub not_one_envelope : NamesOneEnvelope R → ⊥
  not_one_envelope (e, w) =
      let i = w r₀ seg₀ re₀ line₀ in
      let o = R r₀ seg₀ re₀ line₀ in
      let j = w o.reader o.segment o.reassembly (drop o.taken line₀) in
      let p : e.header.opcode ≡ 5 = ap (opcode_of 0) (sym i.2 ∙ first_answer) in
      let q : e.header.opcode ≡ 12 = ap (opcode_of 0) (sym j.2 ∙ second_answer) in
      omega arith
    where
      opcode_of : ℕ → Answer → ℕ
      opcode_of d more = d
      opcode_of d (refused why) = d
      opcode_of d (leftover n) = d
      opcode_of d (envelope_at buffer at v) = v.header.opcode

  pub not_asking_forever : AsksForever R → ⊥
  unfolding answer_tag
  not_asking_forever w = let z : ◌≡◌ {A = ℕ} 0 3 = ap answer_tag (sym (w r₀ seg₀ re₀ line₀) ∙ first_answer) in omega arith

  pub not_only_nodding : OnlyNods R → ⊥
  unfolding answer_tag
  not_only_nodding w = let z : ◌≡◌ {A = ℕ} 0 3 = ap answer_tag (sym (w r₀ seg₀ re₀ line₀) ∙ second_answer) in omega arith

  -- ---- numbers that are not invented

  -- Whatever pieces a caller gives to a fresh one, over whatever buffers: the bytes that it says it took, added up to each answer and to a refusal, are the numbers that the stream itself has there.
  pub taken_is_the_streams_own : (f : Form) (seg re : List ℕ) (pieces : List (List ℕ)) → Asked (in_range (length seg) (length re)) pieces → {m : Meaning} → Hears (machine_of R) holds (start f seg re) 0 pieces m
      → dates_of m ≡ dates_of (heard_of f (length seg) (length re) (joined pieces))
  taken_is_the_streams_own f seg re pieces asked {m} h =
      ap dates_of
      (pieces_do_not_matter f seg re pieces asked
      (subst (λ (c : State → List ℕ → Step State Said Refusal). Hears c holds (start f seg re) 0 pieces m) (fun_ext (λ s. fun_ext (λ piece. ap step_of (keeps s.reader s.segment s.reassembly piece)))) h))

  -- of every reader, over all buffers and every piece: no more is taken than is there, and where more is asked for, all of it
  pub taken_is_a_length : (r : Reader) (seg re piece : List ℕ) → ((R r seg re piece).taken ≤ length piece) × ((R r seg re piece).answer ≡ more → (R r seg re piece).taken ≡ length piece)
  unfolding answer_tag
  taken_is_a_length r seg re piece =
      subst (λ (o : Outcome). (o.taken ≤ length piece) × (o.answer ≡ more → o.taken ≡ length piece)) (sym (keeps r seg re piece)) (by (admissible r (length seg) (length re)) refl)
    where
      s : State
      s = state r seg re

      all : {n : ℕ} (t : State) (answer : Answer) (seg re : List ℕ) → Does reader s piece n (reply_of answer seg re) t → answer ≡ more → n ≡ length piece
      all t more seg re d e = d.all
      all t (refused why) seg re d e = absurd (let z : ◌≡◌ {A = ℕ} 1 0 = ap answer_tag e in omega arith)
      all t (leftover n) seg re d e = absurd (let z : ◌≡◌ {A = ℕ} 2 0 = ap answer_tag e in omega arith)
      all t (envelope_at buffer at v) seg re d e = absurd (let z : ◌≡◌ {A = ℕ} 3 0 = ap answer_tag e in omega arith)

      by : (b : Bool) → admissible r (length seg) (length re) ≡ b → ((call r seg re piece).taken ≤ length piece) × ((call r seg re piece).answer ≡ more → (call r seg re piece).taken ≡ length piece)
      by true e =
          let k = lawful.keeps (state r seg re) piece (admissible_ready r seg re e) in
          let o = call r seg re piece in
          (k.within, λ m. all (state o.reader o.segment o.reassembly) o.answer o.segment o.reassembly k.does m)
      by false e =
          subst (λ (o : Outcome). (o.taken ≤ length piece) × (o.answer ≡ more → o.taken ≡ length piece)) (sym (call_refused r seg re piece e))
          (omega arith, λ m. absurd (let z : ◌≡◌ {A = ℕ} 1 0 = ap answer_tag m in omega arith))

-- A leftover is the number of bytes behind the last whole envelope of a self-contained payload, and is due with the segment's last byte.
pub leftover_is_a_length : (z : Lent) (p u : List ℕ) (es : List Message) → Envelopes p es → envelope u ≡ incomplete → 0 < length u → length (p ++ u) ≤ max_payload
    → segment_length z.form (length (p ++ u)) ≤ z.segment → (taken : ℕ) (stream : List ℕ)
    → (let s : List ℕ = segment_bytes z.form true (p ++ u) in
    let due : ℕ = taken + length s in
    meaning_from z taken [] [] (s ++ stream) ≡ saying (answered due segment_buffer (header_length z.form) es) (says (dated due (leftover_of (length u))) (meaning_from z due [] [] stream)))
leftover_is_a_length z p u es w none some small room taken stream =
    let s : List ℕ = segment_bytes z.form true (p ++ u) in
    let due : ℕ = taken + length s in
    let m : Meaning = meaning_from z due [] [] stream in
    segment_first z s true (p ++ u) (whole_segment z.form true (p ++ u) small) taken [] stream room
    ∙ said_then w u none due segment_buffer (header_length z.form) (λ unread. dropping due unread m)
    ∙ ap (λ (b : Bool). saying (answered due segment_buffer (header_length z.form) es) (cond b m (says (dated due (leftover_of (length u))) m))) (ne_eqb (length u) 0 (λ e. omega arith))
