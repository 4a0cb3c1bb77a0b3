-- Demand 3, the first half: in whatever pieces a stream comes, a caller hears what the whole stream means; and each piece is soon used up. The reader is a machine that keeps the law of
-- `basis`; all else is said there. Assumes nothing.
use Prim.Native.Nat.{ℕ, ◌+◌, ◌-◌, ◌<◌}
use mathlib.Core.Path.{◌≡◌, refl, sym, ap, ap₂, ◌∙◌, subst}
use mathlib.Core.Bool.{Bool, true, false, cond, ◌&&◌}
use mathlib.Core.List.{List, [], ◌∷◌, ◌++◌}
use native.Mathlib.Nat.{zero-add}
use native.Mathlib.Omega.{arith}
use lib.Dec.{leb, eqb}
use lib.ListN.{length, take}
use lib.Seq.{length-take-le}
use Rattle.basis.specs.Front.{Front, incomplete}
use Rattle.basis.specs.Lists.{joined}
use Rattle.basis.specs.Machine.{Step, refused_after, holding, refused_with, by_more, by_refusal, after_one, Ends, Hears, one_used, one_refused}
use Rattle.basis.proofs.Machine.{Machine, Does, Kept, Lawful, asks_refuses, hands_refuses, same_refusal, ends, Open, heard_is, hears_all}
use Rattle.refusal.specs.Refusal.{Refusal, inadmissible}
use Rattle.types.specs.Number.{part}
use Rattle.types.proofs.Cut.{both_true}
use Rattle.segment.specs.Header.{Form, header}
use Rattle.segment.specs.Segment.{Segment}
use Rattle.segment.proofs.Cases.{payload_cut, payload_is}
use Rattle.segment.proofs.HeaderLaid.{head_least, head_most}
use Rattle.frame_decoder.specs.Reader.{Phase, in_header, in_rest, in_segment, in_reassembly, stopped, Reader, fresh, Answer, envelope_at, leftover, more, refused, counts_in, min_segment, max_segment, min_reassembly, max_reassembly, between, in_range, lent_fits, payload_fits, counts_lie, admissible}
use Rattle.frame_decoder.specs.Call.{Outcome, outcome, call}
use Rattle.frame_decoder.specs.Private.Inside.{wanted, Roomy}
use Rattle.frame_decoder.proofs.Steps.{between_true, roomy}
use Rattle.frame_decoder.proofs.Works.{call_within}
use Rattle.stream.specs.Meaning.{lent, Said, Held, held, Meaning, segment_in, by_beginning, meaning_from, meaning}
use Rattle.stream.specs.Caller.{State, state, reply_of, step_of, reads, holds_by, holds, start, HearsOf, heard_of, Asked}
use Rattle.stream.specs.Private.Inside.{lent_of, judging, rest_at, rest, Agrees, Untouched, Ready, Wants, ahead}
use Rattle.stream.proofs.Heads.{in_header_lem, roomy_header, nothing_seen}
use Rattle.stream.proofs.Calls.{admissible_ready, Told, call_refused, called}
use Rattle.stream.proofs.Longer.{asks_for, call_longer, call_joined}

-- ---- a reader that waits for bytes

-- then nothing is to come but what it holds
module _ (r : Reader) (seg re : List ℕ) (t : Ready (state r seg re)) (taken : ℕ) where
  quiet : (pending s : List ℕ) → segment_in (lent_of r) s ≡ incomplete → judging (lent_of r) pending s taken [] ≡ holding (held s pending)
  unfolding meaning_from
  quiet pending s e = ap (λ (f : Front Refusal Segment). by_beginning (lent_of r) f pending s taken (λ pending' s'. meaning_from (lent_of r) taken pending' s' [])) e

  -- no pending byte was handed on
  all_pending : take r.pending re ≡ part re 0 (r.pending - 0)
  all_pending = ap (λ (n : ℕ). take n re) (let i : r.pending ≡ r.pending - 0 = omega arith in i)

  holds_at : (q : Phase) → Roomy (length seg) (counts_in r.form r.pending q) → Agrees r.form q seg → 0 < wanted (counts_in r.form r.pending q)
      → rest_at (lent_of r) r.pending q seg re taken [] ≡ holding (holds_by (counts_in r.form r.pending q) seg re)
  holds_at (in_header n) k a w =
      let l : length (take n seg) ≡ n = length-take-le n seg (omega (arith, k.0, k.1)) in
      quiet (take r.pending re) (take n seg) (in_header_lem (lent_of r) (take n seg) (omega arith)) ∙ ap (λ (p : List ℕ). holding (held (take n seg) p)) all_pending
  holds_at (in_rest n len self) k a w =
      let l : length (take n seg) ≡ n = length-take-le n seg (omega (arith, k.0, k.1)) in
      quiet (take r.pending re) (take n seg)
      (roomy_header (lent_of r) (take n seg) (header len 0 self) a.1 (omega (arith, k.1, t.segment)) ∙ payload_is r.form (take n seg) (header len 0 self) (payload_cut (omega arith)))
      ∙ ap (λ (p : List ℕ). holding (held (take n seg) p)) all_pending
  holds_at (in_segment len at) k a w = absurd (omega arith)
  holds_at (in_reassembly at) k a w = absurd (omega arith)
  holds_at (stopped why) k a w = absurd (omega arith)

-- ---- the law of a call

abbrev pub reader : Machine State Said Refusal Held
reader = record { call = reads; holds = holds; Good = Ready; Sure = Untouched; Waits = Wants; ahead = ahead; rest = rest }

module _ (s : State) (piece : List ℕ) (g : Ready s) where
  abbrev r : Reader
  r = s.reader

  abbrev seg : List ℕ
  seg = s.segment

  abbrev re : List ℕ
  re = s.reassembly

  module _ {n : ℕ} {x : Reader} {S R : List ℕ} where
    -- an answer but more
    answers : {answer : Answer} → (asks_for answer ≡ 1 → ⊥) → call r seg re piece ≡ outcome answer n x S R → (q : List ℕ) → reads s (piece ++ q) ≡ step_of (outcome answer n x S R)
    answers m e q = ap step_of (call_longer r seg re piece q g m e)

    does : (answer : Answer) → call r seg re piece ≡ outcome answer n x S R → Ready (state x S R) → Told s piece n (reply_of answer S R) (state x S R) → Does reader s piece n (reply_of answer S R) (state x S R)
    unfolding asks_for
    does (envelope_at buffer at v) e k t = record { less = t.less; sure = t.agrees; same = t.same; longer = answers (λ i. omega arith) e }
    does (leftover left) e k t = record { less = t.less; sure = t.agrees; same = t.same; longer = answers (λ i. omega arith) e }
    does more e k t = record { all = t.all; waits = t.wanting; sure = t.agrees; same = t.same; both = λ q. ap step_of (call_joined r seg re piece q g k e) }
    does (refused why) e k t = record { same = t.same; longer = answers (λ i. omega arith) e }

  kept : Kept reader s piece (reads s piece)
  kept =
      let c = called r seg re piece g in
      let o : Outcome = call r seg re piece in
      let is : o.taken ≡ c.count = c.is ∙ zero-add c.count in
      record {
        within = call_within r seg re piece;
        good = c.ready;
        does = does o.answer refl c.ready (subst (λ (k : ℕ). Told s piece k (reply_of o.answer o.segment o.reassembly) (state o.reader o.segment o.reassembly)) (sym is) c.told);
      }

pub lawful : Lawful reader
lawful =
    record {
      keeps = kept;
      quiet = λ s taken g a w. holds_at s.reader s.segment s.reassembly g taken s.reader.phase (roomy g.ok) a w;
    }

-- ---- every reader

-- *More* or a refusal comes at the latest after as many other answers as bytes were held, undelivered or lent: of every reader, over all buffers and every piece.
pub soon_used_up : (s : State) (taken : ℕ) (piece : List ℕ) → Ends reads s taken piece (ahead s + length piece)
soon_used_up s taken piece = by (admissible s.reader (length s.segment) (length s.reassembly)) refl
  where
    by : (b : Bool) → admissible s.reader (length s.segment) (length s.reassembly) ≡ b → Ends reads s taken piece (ahead s + length piece)
    by true e = ends reader lawful s taken piece (admissible_ready s.reader s.segment s.reassembly e)
    by false e =
        record {
          handed = [];
          close = refused_with inadmissible;
          end = taken + 0;
          last = s;
          uses = by_refusal (ap step_of (call_refused s.reader s.segment s.reassembly piece e));
          soon = omega arith;
        }

-- so the caller's loop always comes to its end
pub hears : (pieces : List (List ℕ)) (s : State) (taken : ℕ) → (m : Meaning) × Hears reads holds s taken pieces m
hears = hears_all reads holds (λ s piece. ahead s + length piece) soon_used_up

-- ---- a fresh reader

module _ (f : Form) (seg re : List ℕ) where
  module _ (range : in_range (length seg) (length re) ≡ true) where
    pub fresh_ready : Ready (start f seg re)
    unfolding in_range
    fresh_ready =
        let w = both_true (between min_segment max_segment (length seg)) (between min_reassembly max_reassembly (length re)) range in
        let a = between_true min_segment max_segment (length seg) w.0 in
        let b = between_true min_reassembly max_reassembly (length re) w.1 in
        record {
          segment = refl;
          reassembly = refl;
          least = b.0;
          ok = record { least = a.0; most = a.1; held = omega arith; largest = b.1; counts = record { small = omega arith; room = omega (arith, a.0, head_most f); there = omega arith; read = omega arith; from = omega arith } };
        }

    pub heard_all : (stream : List ℕ) → heard_of f (length seg) (length re) stream ≡ meaning (lent f (length seg) (length re)) stream
    unfolding heard_of
    heard_all stream = ap (λ (b : Bool). cond b (meaning (lent f (length seg) (length re)) stream) (refused_after inadmissible 0)) range

    -- what is to come from it is what the stream means
    pub fresh_rest : (stream : List ℕ) → rest (start f seg re) 0 stream ≡ heard_of f (length seg) (length re) stream
    fresh_rest stream =
        ap (λ (x : Front Refusal Segment). by_beginning (lent f (length seg) (length re)) x [] [] 0 (λ pending' s'. meaning_from (lent f (length seg) (length re)) 0 pending' s' stream)) (nothing_seen (lent f (length seg) (length re)))
        ∙ sym (heard_all stream)

  module _ (range : in_range (length seg) (length re) ≡ false) where
    pub heard_none : (stream : List ℕ) → heard_of f (length seg) (length re) stream ≡ refused_after inadmissible 0
    unfolding heard_of
    heard_none stream = ap (λ (b : Bool). cond b (meaning (lent f (length seg) (length re)) stream) (refused_after inadmissible 0)) range

    -- each call is refused with 1
    pub out_of_range : (piece : List ℕ) → reads (start f seg re) piece ≡ step_of (outcome (refused inadmissible) 0 (fresh f (length seg) (length re)) seg re)
    unfolding admissible lent_fits
    out_of_range piece =
        let a : ℕ = length seg in
        let b : ℕ = length re in
        ap step_of
        (call_refused (fresh f a b) seg re piece (ap (λ (t : Bool). (t && (eqb a a && eqb b b)) && (leb 0 b && (payload_fits f a 0 && counts_lie (counts_in f 0 (in_header 0))))) range))

    refused_first : {taken : ℕ} {piece : List ℕ} {pieces : List (List ℕ)} {m : Meaning} → Hears reads holds (start f seg re) taken (piece ∷ pieces) m → m ≡ refused_after inadmissible (taken + 0)
    refused_first {piece = piece} (one_used (by_more e) on) = absurd (asks_refuses (sym e ∙ out_of_range piece))
    refused_first {piece = piece} (one_used (after_one e u) on) = absurd (hands_refuses (sym e ∙ out_of_range piece))
    refused_first {taken} {piece} (one_refused (by_refusal e)) =
        let q = sym e ∙ out_of_range piece in
        ap₂ refused_after (same_refusal q) (ap (λ (o : Step State Said Refusal). taken + o.taken) q)
    refused_first {piece = piece} (one_refused (after_one e u)) = absurd (hands_refuses (sym e ∙ out_of_range piece))

  waiting : (pieces : List (List ℕ)) → Open reader (start f seg re) pieces
  waiting [] = omega (arith, head_least f)
  waiting (piece ∷ pieces) = tt

  by_range : (b : Bool) → in_range (length seg) (length re) ≡ b → (pieces : List (List ℕ)) → Asked b pieces → {m : Meaning} → HearsOf f seg re pieces m → m ≡ heard_of f (length seg) (length re) (joined pieces)
  by_range true range pieces asked h = heard_is reader lawful h (fresh_ready range) tt (waiting pieces) ∙ fresh_rest range (joined pieces)
  by_range false range [] asked h = absurd asked
  by_range false range (piece ∷ pieces) asked h = refused_first range h ∙ sym (heard_none range (joined (piece ∷ pieces)))

  module _ (pieces : List (List ℕ)) (asked : Asked (in_range (length seg) (length re)) pieces) where
    -- However the stream is cut: a caller hears what the whole stream means, and nothing else.
    pub pieces_do_not_matter : {m : Meaning} → HearsOf f seg re pieces m → m ≡ heard_of f (length seg) (length re) (joined pieces)
    pieces_do_not_matter h = by_range (in_range (length seg) (length re)) refl pieces asked h

    -- And it does hear it.
    pub pieces_are_heard : HearsOf f seg re pieces (heard_of f (length seg) (length re) (joined pieces))
    pieces_are_heard = let i = hears pieces (start f seg re) 0 in subst (HearsOf f seg re pieces) (pieces_do_not_matter i.1) i.1
