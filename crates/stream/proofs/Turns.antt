-- One turn of the caller's loop: what a call answers to the bytes of a stream up to some end, and where the caller then stands. Assumes nothing.
use Prim.Native.Nat.{ℕ, ◌+◌, ◌-◌, ◌*◌, ◌≤◌, ◌<◌}
use mathlib.Core.Path.{◌≡◌, refl, sym, ap, ap₂, ◌∙◌, subst}
use mathlib.Core.Bool.{true, false}
use mathlib.Core.List.{List, [], ◌∷◌, ◌++◌, append_assoc, append-nil}
use native.Mathlib.Omega.{arith}
use lib.ListN.{length, take, drop, length-drop, take-append-drop}
use lib.Seq.{drop-drop, drop-length, length-take-le}
use Rattle.basis.specs.Machine.{Dated, dated, refused_after, holding, saying, Close, used_up, refused_with, Uses, by_more, by_refusal, after_one}
use Rattle.basis.proofs.Machine.{Hands, Kept, kept_by, Told, told, one_then, refused_longer}
use Rattle.refusal.specs.Refusal.{Refusal, inadmissible}
use Rattle.types.specs.Number.{part}
use Rattle.types.specs.Read.{Place}
use Rattle.types.proofs.BigEndian.{length_part}
use Rattle.segment.specs.Header.{Form}
use Rattle.frame.specs.Envelope.{Envelope}
use Rattle.frame_decoder.specs.Reader.{Phase, in_header, in_rest, in_segment, in_reassembly, stopped, Reader, fresh, Buffer, bytes_at, Answer, envelope_at, leftover, more, refused, counts_in, counts_of, in_range, max_reassembly}
use Rattle.frame_decoder.specs.Call.{Outcome, outcome, call}
use Rattle.frame_decoder.specs.Private.Inside.{wanted, Roomy}
use Rattle.frame_decoder.proofs.Steps.{roomy}
use Rattle.stream.specs.Meaning.{Said, envelope_of, leftover_of, Meaning}
use Rattle.stream.specs.Caller.{State, state, step_of, reads, holds, start, heard_of}
use Rattle.stream.specs.Collect.{bytes_of, mark_of, Tape, blank, noted, collected, Ending, refused_end, held_end, end_of, HeardAs}
use Rattle.stream.specs.Private.Inside.{Way, Going, noted_all, Onward, ending_of, Over, ahead}
use Rattle.stream.specs.Private.Turn.{way_of, SameLent, PieceUsed, Answered}
use Rattle.stream.specs.declared.Listener.{Listener}
use Rattle.stream.specs.declared.Notebook.{Notebook}
use Rattle.stream.proofs.Calls.{Called, called}
use Rattle.stream.proofs.Longer.{call_waiting}
use Rattle.stream.proofs.Pieces.{reader, lawful, fresh_ready, fresh_rest, heard_none, out_of_range}

-- ---- ways on

noted_both : (xs ys : List (Dated Said)) (t : Tape) → noted_all (xs ++ ys) t ≡ noted_all ys (noted_all xs t)
noted_both [] ys t = refl
noted_both (x ∷ xs) ys t = noted_both xs ys (noted (bytes_of x.what) (mark_of x.what) t)

pub onward_then : {stream : List ℕ} {w v u : Way} → Onward stream w v → Onward stream v u → Onward stream w u
onward_then {stream} {w} {v} {u} p q =
    record {
      handed = p.handed ++ q.handed;
      notes = q.notes ∙ ap (noted_all q.handed) p.notes ∙ sym (noted_both p.handed q.handed w.tape);
      gives =
          λ xs c end t g. subst (λ (l : List (Dated Said)). Uses reads w.at w.taken (drop w.taken stream) l c end t) (sym (append_assoc p.handed q.handed xs))
          (p.gives (q.handed ++ xs) c end t (q.gives xs c end t g));
    }

pub onward_over : {stream : List ℕ} {w v : Way} {t : Tape} {e : Ending} {S R : List ℕ} → Onward stream w v → Over stream v t e S R → Over stream w t e S R
onward_over {w = w} {S = S} {R = R} p q =
    record {
      handed = p.handed ++ q.handed;
      close = q.close;
      taken = q.taken;
      reader = q.reader;
      gives = p.gives q.handed q.close q.taken (state q.reader S R) q.gives;
      notes = q.notes ∙ ap (noted_all q.handed) p.notes ∙ sym (noted_both p.handed q.handed w.tape);
      ends = q.ends;
    }

-- what each loop keeps: from where it set out to where it is
pub record Underway (l m : Listener) (b c : Notebook) : Type 0 where
  pub same : SameLent l m b c
  pub going : Going m.stream.now (way_of m c)
  pub onward : Onward l.stream.now (way_of l b) (way_of m c)

same_then : {l m n : Listener} {b c d : Notebook} → SameLent l m b c → SameLent m n c d → SameLent l n b d
same_then p q =
    record {
      stream = q.stream ∙ p.stream;
      segment = q.segment ∙ p.segment;
      reassembly = q.reassembly ∙ p.reassembly;
      outputs = record { envelopes = q.outputs.envelopes ∙ p.outputs.envelopes; marks = q.outputs.marks ∙ p.outputs.marks };
    }

module _ {l m : Listener} {b c : Notebook} (p : Underway l m b c) where
  pub underway_then : {n : Listener} {d : Notebook} → SameLent m n c d → Going m.stream.now (way_of n d) → Onward m.stream.now (way_of m c) (way_of n d) → Underway l n b d
  underway_then same going onward = record { same = same_then p.same same; going = rw same.stream going; onward = onward_then p.onward (rw (sym p.same.stream) onward) }

  -- the end of what is left from there is the end of all
  pub underway_over : {t : Tape} {e : Ending} {S R : List ℕ} → Over m.stream.now (way_of m c) t e S R → Over l.stream.now (way_of l b) t e S R
  underway_over over = onward_over p.onward (rw (sym p.same.stream) over)

  pub underway_used : {end : ℕ} {v : Way} → PieceUsed m.stream.now end (way_of m c) v → PieceUsed l.stream.now end (way_of l b) v
  underway_used {end} {v} used =
      let u : PieceUsed l.stream.now end (way_of m c) v = rw (sym p.same.stream) used in
      record { going = u.going; all = u.all; wants = u.wants; onward = onward_then p.onward u.onward }

-- ---- a call

-- of a piece that ends there n bytes are taken, and less is left
nearer : (before after : ℕ) {whole rest : ℕ} (taken n end : ℕ) → after + rest < before + whole → rest ≡ whole - n → whole ≡ end - taken → taken + n ≤ end → after + (end - (taken + n)) < before + (end - taken)
nearer before after taken n end less cut is within = omega arith

abbrev piece_to : ℕ → List ℕ → Way → List ℕ
piece_to end stream w = part stream w.taken (end - w.taken)

-- the call with the bytes up to there comes to this
abbrev pub Comes : List ℕ → ℕ → Way → Outcome → Type 0
Comes stream end w o = call w.at.reader w.at.segment w.at.reassembly (piece_to end stream w) ≡ o

module _ {stream : List ℕ} {end : ℕ} {w : Way} (asked : Going stream w × (w.taken ≤ end) × (end ≤ length stream)) where
  abbrev g : Going stream w
  g = asked.0

  abbrev piece : List ℕ
  piece = piece_to end stream w

  abbrev behind : List ℕ
  behind = drop end stream

  piece_length : length piece ≡ end - w.taken
  piece_length = length_part stream w.taken (end - w.taken) (omega (arith, asked.2))

  -- the piece and what follows it are all that was not taken
  parted : piece ++ behind ≡ drop w.taken stream
  parted =
      ap (λ (l : List ℕ). piece ++ l) (ap (λ (i : ℕ). drop i stream) (let i : end ≡ w.taken + (end - w.taken) = omega (arith, asked.1) in i) ∙ sym (drop-drop (end - w.taken) w.taken stream))
      ∙ take-append-drop (end - w.taken) (drop w.taken stream)

  module _ {answer : Answer} {n : ℕ} {x : Reader} {seg' re' : List ℕ} (e : Comes stream end w (outcome answer n x seg' re')) where
    abbrev kept : Kept reader w.at piece (step_of (outcome answer n x seg' re'))
    kept = kept_by reader lawful g.ready (ap step_of e)

    pub turn_within : w.taken + n ≤ end
    turn_within = omega (arith, kept.within, piece_length, asked.1)

    -- where the caller then stands
    abbrev pub after : Tape → Way
    after t = record { at = state x seg' re'; taken = w.taken + n; tape = t }

    answered : (said : Said) → Hands reader w.at piece n said (state x seg' re') → {t : Tape} → t ≡ noted (bytes_of said) (mark_of said) w.tape → Answered stream end w (after t)
    answered said d q =
        record {
          going = record { ready = kept.good; untouched = d.sure g.untouched; within = omega (arith, turn_within, asked.2) };
          most = turn_within;
          less = nearer (ahead w.at) (ahead (state x seg' re')) w.taken n end d.less (length-drop n piece) piece_length turn_within;
          onward = record {
            handed = dated (w.taken + n) said ∷ [];
            notes = q;
            gives =
                λ xs c last u i. after_one (ap (reads w.at) (sym parted) ∙ d.longer behind)
                (subst (λ (l : List ℕ). Uses reads (state x seg' re') (w.taken + n) l xs c last u) (sym (drop-drop n w.taken stream)) i);
          };
        }

  module _ {n : ℕ} {x : Reader} {seg' re' : List ℕ} where
    pub envelope_turn : {buffer : Buffer} {at : Place} {v : Envelope} (e : Comes stream end w (outcome (envelope_at buffer at v) n x seg' re')) {t : Tape} {bytes : List ℕ}
        → bytes ≡ bytes_at buffer seg' re' at → t ≡ noted bytes (length bytes * 2) w.tape → Answered stream end w (after e t)
    envelope_turn {buffer} {at} {v} e b q = answered e (envelope_of buffer at (bytes_at buffer seg' re' at) v) (kept e).does (q ∙ ap (λ (l : List ℕ). noted l (length l * 2) w.tape) b)

    pub leftover_turn : {left : ℕ} (e : Comes stream end w (outcome (leftover left) n x seg' re')) {t : Tape} → t ≡ noted [] (left * 2 + 1) w.tape → Answered stream end w (after e t)
    leftover_turn {left} e q = answered e (leftover_of left) (kept e).does q

    -- a leftover is no longer than a buffer
    pub leftover_small : {left : ℕ} → Comes stream end w (outcome (leftover left) n x seg' re') → left ≤ max_reassembly
    leftover_small e = (subst (Called w.at piece 0) e (called w.at.reader w.at.segment w.at.reassembly piece g.ready)).told.small

    pub more_turn : (e : Comes stream end w (outcome more n x seg' re')) → PieceUsed stream end w (after e w.tape)
    more_turn e =
        let d = (kept e).does in
        let all : w.taken + n ≡ end = omega (arith, d.all, piece_length, asked.1) in
        record {
          going = record { ready = (kept e).good; untouched = d.sure g.untouched; within = omega (arith, all, asked.2) };
          all = all;
          wants = d.waits;
          onward = record {
            handed = [];
            notes = refl;
            gives =
                λ xs c last u i. subst (λ (l : List ℕ). Uses reads w.at w.taken l xs c last u) parted
                (one_then reader lawful behind g.ready (by_more (ap step_of e)) (subst (λ (j : ℕ). Uses reads (state x seg' re') (w.taken + n) (drop j stream) xs c last u) all i));
          };
        }

    pub refused_turn : {why : Refusal} → Comes stream end w (outcome (refused why) n x seg' re') → Over stream w w.tape (refused_end why (w.taken + n)) seg' re'
    refused_turn {why} e =
        record {
          handed = [];
          close = refused_with why;
          taken = w.taken + n;
          reader = x;
          gives =
              subst (λ (l : List ℕ). Uses reads w.at w.taken l [] (refused_with why) (w.taken + n) (state x seg' re')) parted
              (refused_longer reader lawful behind g.ready (by_refusal (ap step_of e)));
          notes = refl;
          ends = refl;
        }

-- ---- the end

-- nothing more comes, and what is held is told
module _ {stream : List ℕ} {w v : Way} (used : PieceUsed stream (length stream) w v) where
  abbrev r : Reader
  r = v.at.reader

  abbrev seg : List ℕ
  seg = v.at.segment

  abbrev re : List ℕ
  re = v.at.reassembly

  none_left : drop v.taken stream ≡ []
  none_left = ap (λ (n : ℕ). drop n stream) used.all ∙ drop-length stream

  held_end_lem : held_end (counts_of r).there (take (counts_of r).there seg) r.pending (take r.pending re) ≡ end_of (holding (holds v.at))
  held_end_lem =
      let room : Roomy (length seg) (counts_of r) = roomy used.going.ready.ok in
      let none : ((counts_of r).from ≡ 0) × ((counts_of r).pending ≡ r.pending) = none_handed r.form r.pending r.phase used.wants in
      let all : take r.pending re ≡ (holds v.at).pending = ap₂ (λ (i n : ℕ). part re i n) (sym none.0) (let i : r.pending ≡ (counts_of r).pending - (counts_of r).from = omega (arith, none.0, none.1) in i) in
      ap₂ (λ (i j : ℕ). held_end i (take (counts_of r).there seg) j (take r.pending re)) (sym (length-take-le (counts_of r).there seg (omega (arith, room.0, room.1))))
      (sym (length-take-le r.pending re used.going.ready.ok.held))
      ∙ ap (λ (p : List ℕ). held_end (length (take (counts_of r).there seg)) (take (counts_of r).there seg) (length p) p) all
    where
      none_handed : (f : Form) (p : ℕ) (q : Phase) → 0 < wanted (counts_in f p q) → ((counts_in f p q).from ≡ 0) × ((counts_in f p q).pending ≡ p)
      none_handed f p (in_header n) w = (refl, refl)
      none_handed f p (in_rest n len self) w = (refl, refl)
      none_handed f p (in_segment len at) w = absurd (omega arith)
      none_handed f p (in_reassembly at) w = absurd (omega arith)
      none_handed f p (stopped why) w = absurd (omega arith)

  pub over_used : Over stream w v.tape (held_end (counts_of r).there (take (counts_of r).there seg) r.pending (take r.pending re)) seg re
  over_used =
      onward_over used.onward
      record {
        handed = [];
        close = used_up;
        taken = v.taken + 0;
        reader = r;
        gives =
            subst (λ (l : List ℕ). Uses reads v.at v.taken l [] used_up (v.taken + 0) v.at) (sym none_left)
            (by_more (ap step_of (call_waiting r seg re used.going.ready used.wants)));
        notes = refl;
        ends = held_end_lem;
      }

-- ---- the start

-- what is written down of a story's answers, and its end
collected_saying : (xs : List (Dated Said)) (m : Meaning) (t : Tape) → collected (saying xs m) t ≡ collected m (noted_all xs t)
collected_saying [] m t = refl
collected_saying (x ∷ xs) m t = collected_saying xs m (noted (bytes_of x.what) (mark_of x.what) t)

pub end_saying : (xs : List (Dated Said)) (m : Meaning) → end_of (saying xs m) ≡ end_of m
end_saying [] m = refl
end_saying (x ∷ xs) m = end_saying xs m

abbrev closing : Close Refusal → ℕ → State → Meaning
closing used_up n t = holding (holds t)
closing (refused_with why) n t = refused_after why n

closing_tape : (c : Close Refusal) (n : ℕ) (s : State) (t : Tape) → collected (closing c n s) t ≡ t
closing_tape used_up n s t = refl
closing_tape (refused_with why) n s t = refl

closing_end : (c : Close Refusal) (n : ℕ) (s : State) → end_of (closing c n s) ≡ ending_of c n s
closing_end used_up n s = refl
closing_end (refused_with why) n s = refl

-- a story that a fresh reader told, once it is told
closes : (f : Form) (seg re stream : List ℕ) → in_range (length seg) (length re) ≡ true → (c : Close Refusal) {xs : List (Dated Said)} {n : ℕ} {t : State}
    → Told reader lawful (start f seg re) 0 stream xs c n t → heard_of f (length seg) (length re) stream ≡ saying xs (closing c n t)
closes f seg re stream range used_up {xs} {n} {t} i =
    sym (fresh_rest f seg re range stream)
    ∙ ap (reader.rest (start f seg re) 0) (sym (append-nil stream))
    ∙ i.same tt []
    ∙ ap (saying xs) (lawful.quiet t n i.good (i.rests.2 tt) i.rests.1)
closes f seg re stream range (refused_with why) i = sym (fresh_rest f seg re range stream) ∙ ap (reader.rest (start f seg re) 0) (sym (append-nil stream)) ∙ i.same tt []

-- before the stream's first byte
abbrev first : Reader → List ℕ → List ℕ → List ℕ → List ℕ → Way
first x seg re envelopes marks = record { at = state x seg re; taken = 0; tape = blank envelopes marks }

module _ {f : Form} {seg re stream envelopes marks : List ℕ} where
  module _ (range : in_range (length seg) (length re) ≡ true) {x : Reader} (new : x ≡ fresh f (length seg) (length re)) where
    pub start_going : Going stream (first x seg re envelopes marks)
    start_going = subst (λ (y : Reader). Going stream (first y seg re envelopes marks)) (sym new) record { ready = fresh_ready f seg re range; untouched = tt; within = omega arith }

    -- what is left at the end is what was lent
    pub start_over : {t t' : Tape} {e e' : Ending} {S R S' R' : List ℕ} → Over stream (first x seg re envelopes marks) t e S R → t' ≡ t → e' ≡ e → S' ≡ S → R' ≡ R → HeardAs f seg re stream envelopes marks t' e' S' R'
    start_over {t} {t'} {e} {e'} {S} {R} {S'} {R'} over same-tape same-end same-segment same-reassembly =
        let o = subst (λ (y : Reader). Over stream (first y seg re envelopes marks) t e S R) new over in
        let last : State = state o.reader S R in
        let same : heard_of f (length seg) (length re) stream ≡ saying o.handed (closing o.close o.taken last) = closes f seg re stream range o.close (told reader lawful (fresh_ready f seg re range) o.gives) in
        rw (same-tape, same-end, same-segment, same-reassembly) record {
          tells =
              o.notes
              ∙ sym (ap (λ (m : Meaning). collected m (blank envelopes marks)) same
              ∙ collected_saying o.handed (closing o.close o.taken last) (blank envelopes marks)
              ∙ closing_tape o.close o.taken last (noted_all o.handed (blank envelopes marks)));
          ends = o.ends ∙ sym (ap end_of same ∙ end_saying o.handed (closing o.close o.taken last) ∙ closing_end o.close o.taken last);
          leaves = record { handed = o.handed; close = o.close; taken = o.taken; reader = o.reader; uses = o.gives };
        }

  -- lengths out of range
  pub start_refused : in_range (length seg) (length re) ≡ false → HeardAs f seg re stream envelopes marks (blank envelopes marks) (refused_end inadmissible 0) seg re
  start_refused range =
      record {
        tells = sym (ap (λ (m : Meaning). collected m (blank envelopes marks)) (heard_none f seg re range stream));
        ends = sym (ap end_of (heard_none f seg re range stream));
        leaves = record { handed = []; close = refused_with inadmissible; taken = 0 + 0; reader = (start f seg re).reader; uses = by_refusal (out_of_range f seg re range stream) };
      }
