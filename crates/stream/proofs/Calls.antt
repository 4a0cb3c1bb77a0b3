-- One call: what it says of all that is to come, and what it leaves is admitted again. Assumes nothing.
use Prim.Native.Nat.{ℕ, suc, ◌+◌, ◌≤◌, ◌<◌}
use mathlib.Core.Path.{◌≡◌, refl, sym, ap, ap₂, ◌∙◌, subst}
use mathlib.Core.Bool.{Bool, true, false, cond, ◌&&◌}
use mathlib.Core.List.{List, [], ◌∷◌, ◌++◌}
use native.Mathlib.Nat.{add-zero}
use native.Mathlib.Omega.{arith}
use borrow.Author.Tests.{le-leb, eq-eqb, eqb-true}
use lib.Dec.{leb, eqb}
use lib.ListN.{length, take, drop}
use lib.Seq.{length-take-le}
use Rattle.basis.specs.Front.{Front, incomplete}
use Rattle.basis.specs.Machine.{Reply, hands_on, asks_more, refuses_with, dated, says, refused_after}
use Rattle.refusal.specs.Refusal.{Refusal, inadmissible}
use Rattle.types.specs.Write.{put}
use Rattle.types.proofs.Cut.{both_true}
use Rattle.segment.specs.Header.{Form, header}
use Rattle.segment.specs.Segment.{Segment, segment_length, max_payload, header_at}
use Rattle.segment.proofs.Cases.{payload_cut, payload_is}
use Rattle.frame_decoder.specs.Reader.{Phase, in_header, in_rest, in_segment, in_reassembly, stopped, Reader, advanced, pushed, Answer, more, refused, Counts, counts_in, counts_of, min_segment, max_segment, min_reassembly, max_reassembly, between, in_range, lent_fits, payload_fits, counts_lie, admissible}
use Rattle.frame_decoder.specs.Settle.{Due, due, waits, settled, settle}
use Rattle.frame_decoder.specs.Call.{Outcome, outcome, stored, work, call}
use Rattle.frame_decoder.specs.Private.Inside.{Lie, Admitted, wanted, Roomy}
use Rattle.frame_decoder.proofs.Steps.{between_true, admitted, roomy, pushed_admitted}
use Rattle.frame_decoder.proofs.Sound.{Sound, settle_sound}
use Rattle.frame_decoder.proofs.Works.{stored_length, work_due, work_more, work_push}
use Rattle.stream.specs.Meaning.{Lent, Said, segment_in, by_beginning, meaning_from}
use Rattle.stream.specs.Caller.{State, state, reply_of, undelivered}
use Rattle.stream.specs.Collect.{said_length}
use Rattle.stream.specs.Private.Inside.{lent_of, judging, rest_at, rest, Agrees, Untouched, Ready, Wants, ahead}
use Rattle.stream.proofs.Lists.{take_put}
use Rattle.stream.proofs.Heads.{header_behind, in_header_lem, roomy_header}
use Rattle.stream.proofs.Rest.{Waits, Replies, Tells, settle_tells}

-- ---- readers that are not refused with 1

both : {a b : Bool} → a ≡ true → b ≡ true → (a && b) ≡ true
both {a} {b} p q = ap₂ (λ (x y : Bool). x && y) p q

counts_fit : (f : Form) (a : ℕ) (c : Counts) → Lie f a c → (payload_fits f a c.payload && counts_lie c) ≡ true
unfolding payload_fits
counts_fit f a c k =
    both (both (le-leb c.payload max_payload k.small) (le-leb (segment_length f c.payload) a k.room))
    (both (le-leb c.there c.goal k.there) (both (le-leb c.read c.all k.read) (le-leb c.from c.pending k.from)))

module _ (r : Reader) (seg re : List ℕ) where
  pub ready_admissible : Ready (state r seg re) → admissible r (length seg) (length re) ≡ true
  unfolding admissible lent_fits in_range
  ready_admissible t =
      let a : ℕ = length seg in
      let b : ℕ = length re in
      both
      (both (both (both (le-leb min_segment a t.ok.least) (le-leb a max_segment t.ok.most)) (both (le-leb min_reassembly b t.least) (le-leb b max_reassembly t.ok.largest)))
      (both (eq-eqb a r.segment t.segment) (eq-eqb b r.reassembly t.reassembly)))
      (both (le-leb r.pending b t.ok.held) (counts_fit r.form a (counts_of r) t.ok.counts))

  pub admissible_ready : admissible r (length seg) (length re) ≡ true → Ready (state r seg re)
  unfolding admissible lent_fits in_range
  admissible_ready e =
      let a : ℕ = length seg in
      let b : ℕ = length re in
      let t = both_true (lent_fits r a b) (leb r.pending b && (payload_fits r.form a (counts_of r).payload && counts_lie (counts_of r))) e in
      let v = both_true (in_range a b) (eqb a r.segment && eqb b r.reassembly) t.0 in
      let w = both_true (between min_segment max_segment a) (between min_reassembly max_reassembly b) v.0 in
      let u = both_true (eqb a r.segment) (eqb b r.reassembly) v.1 in
      record {
        segment = eqb-true a r.segment u.0;
        reassembly = eqb-true b r.reassembly u.1;
        least = (between_true min_reassembly max_reassembly b w.1).0;
        ok = admitted r a b e;
      }

-- ---- one byte

-- a segment that is not yet there takes one byte more
one_more : (z : Lent) (pending s : List ℕ) (taken b : ℕ) (stream : List ℕ) → segment_in z s ≡ incomplete
    → judging z pending s taken (b ∷ stream) ≡ judging z pending (s ++ b ∷ []) (suc taken) stream
unfolding meaning_from
one_more z pending s taken b stream e =
    ap (λ (f : Front Refusal Segment). by_beginning z f pending s taken (λ pending' s'. meaning_from z taken pending' s' (b ∷ stream))) e

-- in phase q it is taken, and stands behind those that are there
pub record Pushes (r : Reader) (q : Phase) (seg re : List ℕ) (b : ℕ) : Type 0 where
  pub most : undelivered (counts_in r.form r.pending (advanced 1 q)) ≤ suc (undelivered (counts_in r.form r.pending q))
  pub agrees : Agrees r.form q seg → Agrees r.form (advanced 1 q) (put seg (counts_in r.form r.pending q).there (b ∷ []))
  pub same : Agrees r.form q seg → (taken : ℕ) (stream : List ℕ)
      → rest_at (lent_of r) r.pending q seg re taken (b ∷ stream) ≡ rest_at (lent_of r) r.pending (advanced 1 q) (put seg (counts_in r.form r.pending q).there (b ∷ [])) re (suc taken) stream

module _ (r : Reader) (seg re : List ℕ) (b : ℕ) (cap : length seg ≡ r.segment) where
  -- the bytes at hand, with one more
  one_put : (n : ℕ) → n < length seg → take (n + 1) (put seg n (b ∷ [])) ≡ take n seg ++ b ∷ []
  one_put n h = take_put seg (b ∷ []) n (n + 1) (omega arith) refl

  pushes : (q : Phase) → Roomy (length seg) (counts_in r.form r.pending q) → 0 < wanted (counts_in r.form r.pending q) → Pushes r q seg re b
  pushes (in_header n) k w =
      let h : n < length seg = omega (arith, k.1) in
      let l : length (take n seg) ≡ n = length-take-le n seg (omega arith) in
      record {
        most = omega arith;
        agrees = λ a. tt;
        same =
            λ a taken stream. one_more (lent_of r) (take r.pending re) (take n seg) taken b stream (in_header_lem (lent_of r) (take n seg) (omega arith))
            ∙ ap (λ (s : List ℕ). judging (lent_of r) (take r.pending re) s (suc taken) stream) (sym (one_put n h));
      }
  pushes (in_rest n len self) k w =
      let h : n < length seg = omega (arith, k.1) in
      let l : length (take n seg) ≡ n = length-take-le n seg (omega arith) in
      record {
        most = omega arith;
        agrees =
            λ a. (
              omega (arith, a.0),
              ap (header_at r.form) (one_put n h) ∙ header_behind r.form (take n seg) (b ∷ []) (omega (arith, a.0)) ∙ a.1,
            );
        same =
            λ a taken stream. one_more (lent_of r) (take r.pending re) (take n seg) taken b stream
            (roomy_header (lent_of r) (take n seg) (header len 0 self) a.1 (omega (arith, k.1))
            ∙ payload_is r.form (take n seg) (header len 0 self) (payload_cut (omega arith)))
            ∙ ap (λ (s : List ℕ). judging (lent_of r) (take r.pending re) s (suc taken) stream) (sym (one_put n h));
      }
  pushes (in_segment len at) k w = absurd (omega arith)
  pushes (in_reassembly at) k w = absurd (omega arith)
  pushes (stopped why) k w = absurd (omega arith)

-- ---- a call

pub record Spoken (s : State) (piece : List ℕ) (count : ℕ) (x : Said) (t : State) : Type 0 where
  pub small : said_length x ≤ max_reassembly
  pub less : ahead t + length (drop count piece) < ahead s + length piece
  pub agrees : Untouched s → Untouched t
  pub same : Untouched s → (taken : ℕ) (stream : List ℕ) → rest s taken (piece ++ stream) ≡ says (dated (taken + count) x) (rest t (taken + count) (drop count piece ++ stream))

pub record Stopped (s : State) (piece : List ℕ) (count : ℕ) (why : Refusal) (t : State) : Type 0 where
  pub stays : t.reader.phase ≡ stopped why
  pub same : Untouched s → (taken : ℕ) (stream : List ℕ) → rest s taken (piece ++ stream) ≡ refused_after why (taken + count)

pub record Waiting (s : State) (piece : List ℕ) (count : ℕ) (t : State) : Type 0 where
  pub all : count ≡ length piece
  pub wanting : Wants t
  pub agrees : Untouched s → Untouched t
  pub same : Untouched s → (taken : ℕ) (stream : List ℕ) → rest s taken (piece ++ stream) ≡ rest t (taken + count) stream

abbrev pub Told : State → List ℕ → ℕ → Reply Said Refusal → State → Type 0
Told s piece count (hands_on x) t = Spoken s piece count x t
Told s piece count asks_more t = Waiting s piece count t
Told s piece count (refuses_with why) t = Stopped s piece count why t

-- so many bytes were taken before
pub record Called (s : State) (piece : List ℕ) (before : ℕ) (o : Outcome) : Type 0 where
  pub count : ℕ
  pub is : o.taken ≡ before + count
  pub ready : Ready (state o.reader o.segment o.reassembly)
  pub told : Told s piece count (reply_of o.answer o.segment o.reassembly) (state o.reader o.segment o.reassembly)

module _ (r : Reader) (seg re : List ℕ) (t : Ready (state r seg re)) where
  abbrev here : State
  here = state r seg re

  -- what settling leaves is ready again
  ready_settled : {x : Reader} {re' : List ℕ} → lent_of x ≡ lent_of r → Admitted x (length seg) (length re) → length re' ≡ length re → Ready (state x seg re')
  ready_settled {x} {re'} l ok e =
      record {
        segment = t.segment ∙ sym (ap (λ (y : Lent). y.segment) l);
        reassembly = e ∙ t.reassembly ∙ sym (ap (λ (y : Lent). y.reassembly) l);
        least = omega (arith, t.least);
        ok = subst (λ (n : ℕ). Admitted x (length seg) n) (sym e) ok;
      }

  -- an answer that is due at once
  told_at_once : (piece : List ℕ) (reply : Reply Said Refusal) (x : Reader) (re' : List ℕ) → Replies r r.phase seg re reply x re' → Told here piece 0 reply (state x seg re')
  told_at_once piece (hands_on said) x re' d =
      record {
        small = d.small;
        less = omega (arith, d.less);
        agrees = λ a. d.agrees;
        same = λ a taken stream. d.same a taken (piece ++ stream) ∙ ap (λ (k : ℕ). says (dated k said) (rest (state x seg re') k (piece ++ stream))) (sym (add-zero taken));
      }
  told_at_once piece asks_more x re' d = absurd d
  told_at_once piece (refuses_with why) x re' d =
      record { stays = d.stays; same = λ a taken stream. d.same a taken (piece ++ stream) ∙ ap (refused_after why) (sym (add-zero taken)) }

  lends_at_once : (reply : Reply Said Refusal) (x : Reader) (re' : List ℕ) → Replies r r.phase seg re reply x re' → lent_of x ≡ lent_of r
  lends_at_once (hands_on said) x re' d = d.lends
  lends_at_once asks_more x re' d = absurd d
  lends_at_once (refuses_with why) x re' d = d.lends

  at_once : (piece : List ℕ) (before : ℕ) (answer : Answer) (x : Reader) (re' : List ℕ) → Admitted x (length seg) (length re) → length re' ≡ length re → Tells r r.phase seg re (due answer x) re'
      → Called here piece before (outcome answer before x seg re')
  at_once piece before answer x re' ok l d =
      record {
        count = 0;
        is = sym (add-zero before);
        ready = ready_settled (lends_at_once (reply_of answer seg re') x re' d) ok l;
        told = told_at_once piece (reply_of answer seg re') x re' d;
      }

  -- nothing is due, and no byte is there
  asks : (before : ℕ) (x : Reader) (re' : List ℕ) → Admitted x (length seg) (length re) → length re' ≡ length re → Wants (state x seg re') → Waits r r.phase seg re x re'
      → Called here [] before (outcome more before x seg re')
  asks before x re' ok l w d =
      record {
        count = 0;
        is = sym (add-zero before);
        ready = ready_settled d.lends ok l;
        told = record {
          all = refl;
          wanting = w;
          agrees = d.agrees;
          same = λ a taken stream. d.same a taken stream ∙ ap (λ (k : ℕ). rest (state x seg re') k stream) (sym (add-zero taken));
        };
      }

  -- nothing is due, and a byte is taken before what the rest of the call says
  module _ (b : ℕ) (piece : List ℕ) (before : ℕ) (x : Reader) (re' : List ℕ) (ok : Admitted x (length seg) (length re)) (l : length re' ≡ length re) (w : 0 < wanted (counts_of x))
      (d : Waits r r.phase seg re x re') where
    abbrev seg' : List ℕ
    seg' = stored x seg (b ∷ [])

    abbrev on : State
    on = state (pushed 1 x) seg' re'

    abbrev ready_x : Ready (state x seg re')
    ready_x = ready_settled d.lends ok l

    abbrev pushes_x : Pushes x x.phase seg re' b
    pushes_x = pushes x seg re' b ready_x.segment x.phase (roomy ok) w

    pub ready_on : Ready on
    ready_on =
        let long : length seg' ≡ length seg = stored_length x seg (b ∷ []) w (roomy ok) in
        record {
          segment = long ∙ ready_x.segment;
          reassembly = ready_x.reassembly;
          least = ready_x.least;
          ok = subst (λ (n : ℕ). Admitted (pushed 1 x) n (length re')) (sym long) (pushed_admitted ready_x.ok 1 w);
        }

    agrees_on : Untouched here → Untouched on
    agrees_on a = pushes_x.agrees (d.agrees a)

    same_on : Untouched here → (taken : ℕ) (stream : List ℕ) → rest here taken (b ∷ stream) ≡ rest on (suc taken) stream
    same_on a taken stream = d.same a taken (b ∷ stream) ∙ pushes_x.same (d.agrees a) taken stream

    later : (taken count : ℕ) → suc taken + count ≡ taken + suc count
    later taken count = omega arith

    told_later : (count : ℕ) (reply : Reply Said Refusal) (u : State) → Told on piece count reply u → Told here (b ∷ piece) (suc count) reply u
    told_later count (hands_on said) u t =
        record {
          small = t.small;
          less = omega (arith, t.less, pushes_x.most, d.most);
          agrees = λ a. t.agrees (agrees_on a);
          same =
              λ a taken stream. same_on a taken (piece ++ stream)
              ∙ t.same (agrees_on a) (suc taken) stream
              ∙ ap (λ (k : ℕ). says (dated k said) (rest u k (drop count piece ++ stream))) (later taken count);
        }
    told_later count asks_more u t =
        record {
          all = ap suc t.all;
          wanting = t.wanting;
          agrees = λ a. t.agrees (agrees_on a);
          same = λ a taken stream. same_on a taken (piece ++ stream) ∙ t.same (agrees_on a) (suc taken) stream ∙ ap (λ (k : ℕ). rest u k stream) (later taken count);
        }
    told_later count (refuses_with why) u t =
        record { stays = t.stays; same = λ a taken stream. same_on a taken (piece ++ stream) ∙ t.same (agrees_on a) (suc taken) stream ∙ ap (refused_after why) (later taken count) }

    one_later : (o : Outcome) → Called on piece (suc before) o → Called here (b ∷ piece) before o
    one_later o t =
        record {
          count = suc t.count;
          is = t.is ∙ later before t.count;
          ready = t.ready;
          told = told_later t.count (reply_of o.answer o.segment o.reassembly) (state o.reader o.segment o.reassembly) t.told;
        }

-- by what settling says
module _ (before : ℕ) (r : Reader) (seg re : List ℕ) (t : Ready (state r seg re)) where
  called_last : (d : Due) (re' : List ℕ) → settle r seg re ≡ settled d re' → Sound (length seg) (length re) d re' → Tells r r.phase seg re d re' → Called (state r seg re) [] before (work before r seg re [])
  called_last (due answer x) re' e s d = subst (Called (state r seg re) [] before) (sym (work_due before seg r re [] e)) (at_once r seg re t [] before answer x re' s.0 s.1 d)
  called_last (waits x) re' e s d = subst (Called (state r seg re) [] before) (sym (work_more before seg r re e)) (asks r seg re t before x re' s.0 s.1 s.2 d)

  called_next : (b : ℕ) (piece : List ℕ) (d : Due) (re' : List ℕ) → settle r seg re ≡ settled d re' → Sound (length seg) (length re) d re' → Tells r r.phase seg re d re'
      → ((x : Reader) (seg₁ re₁ : List ℕ) → Ready (state x seg₁ re₁) → Called (state x seg₁ re₁) piece (suc before) (work (suc before) x seg₁ re₁ piece))
      → Called (state r seg re) (b ∷ piece) before (work before r seg re (b ∷ piece))
  called_next b piece (due answer x) re' e s d goes_on =
      subst (Called (state r seg re) (b ∷ piece) before) (sym (work_due before seg r re (b ∷ piece) e)) (at_once r seg re t (b ∷ piece) before answer x re' s.0 s.1 d)
  called_next b piece (waits x) re' e s d goes_on =
      subst (Called (state r seg re) (b ∷ piece) before) (sym (work_push before seg r re b piece e))
      (one_later r seg re t b piece before x re' s.0 s.1 s.2 d _ (goes_on _ _ _ (ready_on r seg re t b piece before x re' s.0 s.1 s.2 d)))

work_called : (piece : List ℕ) (before : ℕ) (r : Reader) (seg re : List ℕ) → Ready (state r seg re) → Called (state r seg re) piece before (work before r seg re piece)
work_called [] before r seg re t =
    called_last before r seg re t (settle r seg re).says (settle r seg re).reassembly refl (settle_sound r (length seg) (length re) t.ok seg re refl refl)
    (settle_tells r seg re t.segment t.reassembly t.ok)
work_called (b ∷ piece) before r seg re t =
    called_next before r seg re t b piece (settle r seg re).says (settle r seg re).reassembly refl (settle_sound r (length seg) (length re) t.ok seg re refl refl)
    (settle_tells r seg re t.segment t.reassembly t.ok) (λ x seg₁ re₁ t₁. work_called piece (suc before) x seg₁ re₁ t₁)

-- ---- 1 is tested first

module _ (r : Reader) (seg re piece : List ℕ) where
  pub call_works : Ready (state r seg re) → call r seg re piece ≡ work 0 r seg re piece
  unfolding call
  call_works t = ap (λ (b : Bool). cond b (work 0 r seg re piece) (outcome (refused inadmissible) 0 r seg re)) (ready_admissible r seg re t)

  pub call_refused : admissible r (length seg) (length re) ≡ false → call r seg re piece ≡ outcome (refused inadmissible) 0 r seg re
  unfolding call
  call_refused e = ap (λ (b : Bool). cond b (work 0 r seg re piece) (outcome (refused inadmissible) 0 r seg re)) e

  pub called : Ready (state r seg re) → Called (state r seg re) piece 0 (call r seg re piece)
  called t = subst (Called (state r seg re) piece 0) (sym (call_works t)) (work_called piece 0 r seg re t)
