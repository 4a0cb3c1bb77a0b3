-- What is known of a reader that is not refused with 1, and that each step leaves such a reader. Assumes nothing.
use Prim.Native.Nat.{ℕ, ◌+◌, ◌-◌, ◌≤◌}
use mathlib.Core.Path.{◌≡◌}
use mathlib.Core.Bool.{Bool, true, false, cond, ◌&&◌}
use native.Mathlib.Omega.{arith}
use borrow.Author.Tests.{leb-true}
use lib.Dec.{leb, eqb}
use Rattle.refusal.specs.Refusal.{Refusal}
use Rattle.types.proofs.Cut.{both_true}
use Rattle.segment.specs.Header.{Form, Header, header_length}
use Rattle.segment.specs.Segment.{max_payload, segment_length}
use Rattle.segment.proofs.HeaderLaid.{head_most}
use Rattle.frame_decoder.specs.Reader.{Phase, in_header, in_rest, in_segment, in_reassembly, stopped, Reader, keeping, advanced, pushed, header_passed, segment_finished, handed_on, payload_read, stopped_by, Counts, counts, counts_in, counts_of, min_segment, max_segment, min_reassembly, max_reassembly, between, in_range, lent_fits, payload_fits, counts_lie, admissible}
use Rattle.frame_decoder.specs.Private.Inside.{Lie, Admitted, wanted, Roomy}

-- ---- from the tests

pub between_true : (least most n : ℕ) → between least most n ≡ true → (least ≤ n) × (n ≤ most)
between_true least most n e =
    let t = both_true (leb least n) (leb n most) e in
    (leb-true least n t.0, leb-true n most t.1)

pub payload_fits_lem : (f : Form) (room len : ℕ) → payload_fits f room len ≡ true → (len ≤ max_payload) × (segment_length f len ≤ room)
unfolding payload_fits
payload_fits_lem f room len e =
    let t = both_true (leb len max_payload) (leb (segment_length f len) room) e in
    (leb-true len max_payload t.0, leb-true (segment_length f len) room t.1)

counted : (f : Form) (room : ℕ) (c : Counts) → (payload_fits f room c.payload && counts_lie c) ≡ true → Lie f room c
counted f room c e =
    let t = both_true (payload_fits f room c.payload) (counts_lie c) e in
    let p = payload_fits_lem f room c.payload t.0 in
    let u = both_true (leb c.there c.goal) (leb c.read c.all && leb c.from c.pending) t.1 in
    let v = both_true (leb c.read c.all) (leb c.from c.pending) u.1 in
    record {
      small = p.0;
      room = p.1;
      there = leb-true c.there c.goal u.0;
      read = leb-true c.read c.all v.0;
      from = leb-true c.from c.pending v.1;
    }

pub admitted : (r : Reader) (a b : ℕ) → admissible r a b ≡ true → Admitted r a b
unfolding admissible lent_fits in_range
admitted r a b e =
    let counts = payload_fits r.form a (counts_of r).payload && counts_lie (counts_of r) in
    let t = both_true (lent_fits r a b) (leb r.pending b && counts) e in
    let u = both_true (leb r.pending b) counts t.1 in
    let v = both_true (in_range a b) (eqb a r.segment && eqb b r.reassembly) t.0 in
    let w = both_true (between min_segment max_segment a) (between min_reassembly max_reassembly b) v.0 in
    let s = between_true min_segment max_segment a w.0 in
    let z = between_true min_reassembly max_reassembly b w.1 in
    record {
      least = s.0;
      most = s.1;
      held = leb-true r.pending b u.0;
      largest = z.1;
      counts = counted r.form a (counts_of r) u.1;
    }

-- ---- what is still to come has its place

goal_within : (f : Form) (p : ℕ) (q : Phase) → (counts_in f p q).goal ≤ segment_length f (counts_in f p q).payload
goal_within f p (in_header n) = omega arith
goal_within f p (in_rest n len self) = omega arith
goal_within f p (in_segment len at) = omega arith
goal_within f p (in_reassembly at) = omega arith
goal_within f p (stopped why) = omega arith

pub roomy : {r : Reader} {a b : ℕ} → Admitted r a b → Roomy a (counts_of r)
roomy {r} ok = (ok.counts.there, omega (arith, goal_within r.form r.pending r.phase, ok.counts.room))

-- ---- a phase goes on

-- how far it can
abbrev pub left_in : Form → ℕ → Phase → ℕ
left_in f p (in_header n) = header_length f - n
left_in f p (in_rest n len self) = segment_length f len - n
left_in f p (in_segment len at) = len - at
left_in f p (in_reassembly at) = p - at
left_in f p (stopped why) = 0

wanted_left : (f : Form) (p : ℕ) (q : Phase) → wanted (counts_in f p q) ≤ left_in f p q
wanted_left f p (in_header n) = omega arith
wanted_left f p (in_rest n len self) = omega arith
wanted_left f p (in_segment len at) = omega arith
wanted_left f p (in_reassembly at) = omega arith
wanted_left f p (stopped why) = omega arith

goes_on : (f : Form) (a p k : ℕ) (q : Phase) → k ≤ left_in f p q → Lie f a (counts_in f p q) → Lie f a (counts_in f p (advanced k q))
goes_on f a p k (in_header n) h l = record { small = l.small; room = l.room; there = omega (arith, l.there); read = l.read; from = l.from }
goes_on f a p k (in_rest n len self) h l = record { small = l.small; room = l.room; there = omega (arith, l.there); read = l.read; from = l.from }
goes_on f a p k (in_segment len at) h l = record { small = l.small; room = l.room; there = l.there; read = omega (arith, l.read); from = l.from }
goes_on f a p k (in_reassembly at) h l = record { small = l.small; room = l.room; there = l.there; read = l.read; from = omega (arith, l.from) }
goes_on f a p k (stopped why) h l = l

-- ---- the steps

module _ {r : Reader} {a b : ℕ} (ok : Admitted r a b) where
  -- the same buffers, with other counts
  counting : {p : ℕ} {q : Phase} → p ≤ b → Lie r.form a (counts_in r.form p q) → Admitted (keeping r p q) a b
  counting h l = record { least = ok.least; most = ok.most; held = h; largest = ok.largest; counts = l }

  -- no payload is told of
  untold : {there goal from pending : ℕ} → there ≤ goal → from ≤ pending → Lie r.form a (counts there goal 0 0 0 from pending)
  untold h k = record { small = omega arith; room = omega (arith, head_most r.form, ok.least); there = h; read = omega arith; from = k }

  pub pushed_admitted : (k : ℕ) → k ≤ wanted (counts_of r) → Admitted (pushed k r) a b
  pushed_admitted k h = counting ok.held (goes_on r.form a r.pending k r.phase (omega (arith, h, wanted_left r.form r.pending r.phase)) ok.counts)

  pub passed_admitted : (n : ℕ) (h : Header) → h.payload ≤ max_payload → segment_length r.form h.payload ≤ a → n ≤ segment_length r.form h.payload → Admitted (header_passed r n h) a b
  passed_admitted n h small room there = counting ok.held (record { small = small; room = room; there = there; read = omega arith; from = omega arith })

  pub finished_admitted : (len : ℕ) (self : Bool) → len ≤ max_payload → segment_length r.form len ≤ a → cond self 0 (r.pending + len) ≤ b → Admitted (segment_finished r len self) a b
  finished_admitted len true small room fits = counting ok.held (record { small = small; room = room; there = omega arith; read = omega arith; from = omega arith })
  finished_admitted len false small room fits = counting fits (untold (omega arith) (omega arith))

  pub handed_admitted : (q : Phase) (size : ℕ) → Lie r.form a (counts_in r.form r.pending q) → size ≤ left_in r.form r.pending q → Admitted (handed_on r q size) a b
  handed_admitted q size l h = counting ok.held (goes_on r.form a r.pending size q h l)

  pub read_admitted : (p : ℕ) → p ≤ b → Admitted (payload_read r p) a b
  read_admitted p h = counting h (untold (omega arith) (omega arith))

  pub stopped_admitted : (why : Refusal) → Admitted (stopped_by r why) a b
  stopped_admitted why = counting ok.held (untold (omega arith) (omega arith))
