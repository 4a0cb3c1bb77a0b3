-- The first bytes of a segment: bytes behind a whole header, and behind a whole segment, change nothing. Assumes nothing.
use Prim.Native.Nat.{ℕ, ◌+◌, ◌≤◌, ◌<◌}
use mathlib.Core.Path.{◌≡◌, ap, ap₂, ◌∙◌}
use mathlib.Core.Bool.{Bool, cond}
use mathlib.Core.List.{List, [], ◌++◌}
use native.Mathlib.Omega.{arith}
use borrow.Author.Tests.{le-leb, lt-leb}
use lib.Dec.{eqb}
use lib.ListN.{length, take, length-append}
use lib.Seq.{take-append-le}
use Rattle.basis.specs.Front.{Front, incomplete, refuses, whole, if_whole}
use Rattle.crc.specs.Check24.{crc24}
use Rattle.crc.specs.Check32.{crc32}
use Rattle.refusal.specs.Refusal.{Refusal, segment_too_long}
use Rattle.types.specs.Number.{part}
use Rattle.types.proofs.Steady.{part_same}
use Rattle.segment.specs.LittleEndian.{le}
use Rattle.segment.specs.Header.{Form, Header, number_length, check_length, header_length, fields_of}
use Rattle.segment.specs.Segment.{trailer_length, checked, header_at, Segment, segment, segment_length, payload_at}
use Rattle.segment.proofs.Cases.{fields_at, Headers, head_cut, head_differs, head_compressed, head_good, header_is, header_case, payload_in, trailed, Payloads, payload_cut, payload_differs, payload_good, payload_is, payload_case}
use Rattle.segment.proofs.HeaderLaid.{head_least}
use Rattle.stream.specs.Meaning.{Lent, behind_header, segment_in}

-- a part that lies in some bytes is the same in those bytes and more
pub part_behind : (s q : List ℕ) (at n : ℕ) → at + n ≤ length s → part (s ++ q) at n ≡ part s at n
part_behind s q at n h = part_same s (s ++ q) at n h (omega (arith, length-append s q)) (take-append-le (at + n) s q h)

module _ (f : Form) (s q : List ℕ) where
  module _ (h : header_length f ≤ length s) where
    same_number : take (number_length f) (s ++ q) ≡ take (number_length f) s
    same_number = take-append-le (number_length f) s q (omega arith)

    same_fields : fields_at f (s ++ q) ≡ fields_at f s
    same_fields = ap (λ (l : List ℕ). fields_of f (le l)) same_number

    same_check : checked f (s ++ q) ≡ checked f s
    same_check = ap₂ (λ (l n : List ℕ). eqb (le l) (crc24 n)) (part_behind s q (number_length f) check_length h) same_number

    pub header_behind : header_at f (s ++ q) ≡ header_at f s
    header_behind = go (header_case f s)
      where
        more : header_length f ≤ length (s ++ q)
        more = omega (arith, length-append s q)

        go : {x : Front Refusal Header} → Headers f s x → header_at f (s ++ q) ≡ x
        go (head_cut l) = absurd (omega arith)
        go (head_differs l c) = header_is f (s ++ q) (head_differs more (same_check ∙ c))
        go (head_compressed l c u) = header_is f (s ++ q) (head_compressed more (same_check ∙ c) (ap (λ (x : Header). eqb x.uncompressed 0) same_fields ∙ u))
        go (head_good l c u) = header_is f (s ++ q) (head_good more (same_check ∙ c) (ap (λ (x : Header). eqb x.uncompressed 0) same_fields ∙ u)) ∙ ap whole same_fields

  module _ (h : Header) (l : segment_length f h.payload ≤ length s) where
    same_payload : payload_in f (s ++ q) h ≡ payload_in f s h
    same_payload = part_behind s q (header_length f) h.payload (omega arith)

    same_trailer : trailed f (s ++ q) h ≡ trailed f s h
    same_trailer = ap₂ (λ (t p : List ℕ). eqb (le t) (crc32 p)) (part_behind s q (header_length f + h.payload) trailer_length l) same_payload

    pub payload_behind : payload_at f (s ++ q) h ≡ payload_at f s h
    payload_behind = go (payload_case f s h)
      where
        more : segment_length f h.payload ≤ length (s ++ q)
        more = omega (arith, length-append s q)

        go : {x : Front Refusal Segment} → Payloads f s h x → payload_at f (s ++ q) h ≡ x
        go (payload_cut k) = absurd (omega arith)
        go (payload_differs k c) = payload_is f (s ++ q) h (payload_differs more (same_trailer ∙ c))
        go (payload_good k c) = payload_is f (s ++ q) h (payload_good more (same_trailer ∙ c)) ∙ ap (λ (p : List ℕ). whole (segment h.self p)) same_payload

-- ---- by the header

module _ (z : Lent) (s : List ℕ) where
  pub in_header_lem : length s < header_length z.form → segment_in z s ≡ incomplete
  unfolding segment_in
  in_header_lem h = ap (λ (f : Front Refusal Header). if_whole f (behind_header z s)) (header_is z.form s (head_cut h))

  pub by_header : {f : Front Refusal Header} → header_at z.form s ≡ f → segment_in z s ≡ if_whole f (behind_header z s)
  unfolding segment_in
  by_header e = ap (λ (f : Front Refusal Header). if_whole f (behind_header z s)) e

  pub roomy_header : (h : Header) → header_at z.form s ≡ whole h → segment_length z.form h.payload ≤ z.segment → segment_in z s ≡ payload_at z.form s h
  roomy_header h e l = by_header e ∙ ap (λ (t : Bool). cond t (payload_at z.form s h) (refuses segment_too_long)) (le-leb (segment_length z.form h.payload) z.segment l)

  pub large_header : (h : Header) → header_at z.form s ≡ whole h → z.segment < segment_length z.form h.payload → segment_in z s ≡ refuses segment_too_long
  large_header h e l = by_header e ∙ ap (λ (t : Bool). cond t (payload_at z.form s h) (refuses segment_too_long)) (lt-leb (segment_length z.form h.payload) z.segment l)

-- no bytes are no segment
pub nothing_seen : (z : Lent) → segment_in z [] ≡ incomplete
nothing_seen z = in_header_lem z [] (omega (arith, head_least z.form))
