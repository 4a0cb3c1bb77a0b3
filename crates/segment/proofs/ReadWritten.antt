-- A header or a segment that was read, and whose unused bits are 0, is written back to its bytes. Assumes nothing.
use Prim.Native.Nat.{ℕ, ◌+◌, ◌≤◌}
use mathlib.Core.Path.{◌≡◌, refl, sym, ap, ap₂, ◌∙◌, subst}
use mathlib.Core.Bool.{true}
use mathlib.Core.List.{List, ◌++◌}
use native.Mathlib.Omega.{arith}
use borrow.Author.Tests.{eqb-true}
use lib.ListN.{length, take, drop}
use lib.Seq.{take-add, drop-drop, length-take-le}
use Rattle.basis.specs.Bytes.{Bytes}
use Rattle.basis.specs.Front.{Front, incomplete, refuses, whole, if_whole}
use Rattle.basis.proofs.Fronts.{not_whole, refused_not_whole, whole_value}
use Rattle.crc.specs.Check24.{crc24}
use Rattle.crc.specs.Check32.{crc32}
use Rattle.refusal.specs.Refusal.{Refusal}
use Rattle.types.specs.Number.{part}
use Rattle.types.proofs.BigEndian.{length_part, bytes_part, bytes_take}
use Rattle.segment.specs.LittleEndian.{le, le_digits}
use Rattle.segment.specs.Header.{Form, Header, header, number_length, check_length, header_length, header_number, number_bytes, header_bytes}
use Rattle.segment.specs.Segment.{trailer_length, trailer_bytes, segment_bytes, checked, header_at, Segment, segment, segment_length, payload_at, segment_at}
use Rattle.segment.proofs.LittleEndian.{digits_le}
use Rattle.segment.specs.ThereAndBack.{UnusedZero}
use Rattle.segment.proofs.HeaderBits.{number_forth}
use Rattle.segment.proofs.Cases.{fields_at, Headers, head_cut, head_differs, head_compressed, head_good, header_case, payload_in, Payloads, payload_cut, payload_differs, payload_good, payload_case}

-- ---- the header

-- what a header that was read says of the bytes
pub record HeaderFound (f : Form) (s : List ℕ) (h : Header) : Type 0 where
  pub room : header_length f ≤ length s
  pub check : checked f s ≡ true
  pub plain : h.uncompressed ≡ 0
  pub is : fields_at f s ≡ h

pub header_found : (f : Form) (s : List ℕ) {h : Header} → header_at f s ≡ whole h → HeaderFound f s h
header_found f s {h} e = go (header_case f s) e
  where
    go : {r : Front Refusal Header} → Headers f s r → r ≡ whole h → HeaderFound f s h
    go (head_cut l) e = absurd (not_whole e)
    go (head_differs l c) e = absurd (refused_not_whole e)
    go (head_compressed l c u) e = absurd (refused_not_whole e)
    go (head_good l c u) e =
        let is : fields_at f s ≡ h = whole_value e in
        record { room = l; check = c; plain = sym (ap (λ (x : Header). x.uncompressed) is) ∙ eqb-true (fields_at f s).uncompressed 0 u; is = is }

module _ (f : Form) (s : List ℕ) (b : Bytes s) (unused : UnusedZero f s) where
  pub header_forth : {h : Header} → header_at f s ≡ whole h → header_bytes f h ≡ take (header_length f) s
  unfolding header_bytes number_bytes
  header_forth {h} e =
      let g : HeaderFound f s h = header_found f s e in
      let n : ℕ = number_length f in
      let r : n + check_length ≤ length s = g.room in
      let front : length (take n s) ≡ n = length-take-le n s (omega arith) in
      let number : header_number f h ≡ le (take n s) = ap (header_number f) (sym g.is) ∙ number_forth f (le (take n s)) unused in
      let bytes : le_digits n (header_number f h) ≡ take n s = ap (le_digits n) number ∙ digits_le n (take n s) front (bytes_take n s b) in
      let check : le (part s n check_length) ≡ crc24 (take n s) = eqb-true (le (part s n check_length)) (crc24 (take n s)) g.check in
      let behind : le_digits check_length (crc24 (take n s)) ≡ part s n check_length =
      ap (le_digits check_length) (sym check) ∙ digits_le check_length (part s n check_length) (length_part s n check_length r) (bytes_part s n check_length b)
      in
      ap (λ (l : List ℕ). l ++ le_digits check_length (crc24 l)) bytes
      ∙ ap (λ (l : List ℕ). take n s ++ l) behind
      ∙ sym (take-add n check_length s)

  -- ---- the segment

  pub segment_forth : {g : Segment} → segment_at f s ≡ whole g → segment_bytes f g.self g.payload ≡ take (segment_length f (length g.payload)) s
  unfolding segment_at segment_bytes
  segment_forth {g} e = by_header (header_at f s) refl e
    where
      by_payload : (h : Header) → header_at f s ≡ whole h → {r : Front Refusal Segment} → Payloads f s h r → r ≡ whole g
          → header_bytes f (header (length g.payload) 0 g.self) ++ (g.payload ++ trailer_bytes g.payload) ≡ take (segment_length f (length g.payload)) s
      by_payload h q (payload_cut l) e = absurd (not_whole e)
      by_payload h q (payload_differs l c) e = absurd (refused_not_whole e)
      by_payload h q (payload_good l c) e =
          let p : List ℕ = payload_in f s h in
          let k : ℕ = header_length f in
          let m : ℕ = h.payload in
          let room : k + m + trailer_length ≤ length s = l in
          let lp : length p ≡ m = length_part s k m (omega arith) in
          let same : segment h.self p ≡ g = whole_value e in
          let fields : header m 0 h.self ≡ h = ap (λ (u : ℕ). header m u h.self) (sym (header_found f s q).plain) in
          let head : header_bytes f (header (length p) 0 h.self) ≡ take k s =
          ap (λ (x : ℕ). header_bytes f (header x 0 h.self)) lp ∙ ap (header_bytes f) fields ∙ header_forth q
          in
          let check : le (part s (k + m) trailer_length) ≡ crc32 p = eqb-true (le (part s (k + m) trailer_length)) (crc32 p) c in
          let trailer : trailer_bytes p ≡ part s (k + m) trailer_length =
          ap (le_digits trailer_length) (sym check)
          ∙ digits_le trailer_length (part s (k + m) trailer_length) (length_part s (k + m) trailer_length room) (bytes_part s (k + m) trailer_length b)
          in
          let all : take k s ++ (p ++ part s (k + m) trailer_length) ≡ take (segment_length f m) s =
          ap (λ (x : List ℕ). take k s ++ (p ++ take trailer_length x)) (sym (drop-drop m k s))
          ∙ ap (λ (x : List ℕ). take k s ++ x) (sym (take-add m trailer_length (drop k s)))
          ∙ sym (take-add k (m + trailer_length) s)
          ∙ ap (λ (x : ℕ). take x s) (let z : k + (m + trailer_length) ≡ k + m + trailer_length = omega arith in z)
          in
          subst (λ (x : Segment). header_bytes f (header (length x.payload) 0 x.self) ++ (x.payload ++ trailer_bytes x.payload) ≡ take (segment_length f (length x.payload)) s) same
          (ap₂ (λ (x y : List ℕ). x ++ (p ++ y)) head trailer ∙ all ∙ ap (λ (x : ℕ). take (segment_length f x) s) (sym lp))

      by_header : (r : Front Refusal Header) → header_at f s ≡ r → if_whole r (payload_at f s) ≡ whole g
          → header_bytes f (header (length g.payload) 0 g.self) ++ (g.payload ++ trailer_bytes g.payload) ≡ take (segment_length f (length g.payload)) s
      by_header incomplete q e = absurd (not_whole e)
      by_header (refuses why) q e = absurd (refused_not_whole e)
      by_header (whole h) q e = by_payload h q (payload_case f s h) e
