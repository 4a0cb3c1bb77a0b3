-- A header or a segment that was written is read back, whatever follows it. Assumes nothing.
use Prim.Native.Nat.{ℕ, ◌+◌, ◌≤◌}
use mathlib.Core.Path.{◌≡◌, refl, sym, ap, ap₂, ◌∙◌, subst}
use mathlib.Core.Bool.{Bool, true}
use mathlib.Core.List.{List, ◌++◌}
use native.Mathlib.Nat.{zero-add, lt_of_lt_of_le}
use native.Mathlib.Omega.{arith}
use borrow.Author.Tests.{eq-eqb}
use lib.Dec.{eqb}
use lib.ListN.{length, take}
use Rattle.basis.specs.Front.{Front, whole, if_whole}
use Rattle.crc.specs.Check24.{crc24}
use Rattle.crc.specs.Check32.{crc32}
use Rattle.crc.proofs.Check24.{crc24_below}
use Rattle.crc.proofs.Check32.{crc32_below}
use Rattle.basis.specs.Bytes.{Bytes}
use Rattle.refusal.specs.Refusal.{Refusal}
use Rattle.types.specs.Number.{part}
use Rattle.types.specs.ThereAndBack.{Holds}
use Rattle.types.proofs.Holds.{holds_left, holds_right}
use Rattle.segment.specs.LittleEndian.{le, le_digits}
use Rattle.segment.specs.Header.{Form, Header, header, number_length, check_length, header_length, fields_of, header_number, number_bytes, header_bytes}
use Rattle.segment.specs.Segment.{trailer_length, max_payload, trailer_bytes, segment_bytes, checked, header_at, segment, payload_at, segment_at}
use Rattle.segment.proofs.LittleEndian.{length_le, bytes_le, le_digits_fit}
use Rattle.segment.specs.ThereAndBack.{Fits}
use Rattle.segment.proofs.HeaderBits.{number_below, used_within, fields_back}
use Rattle.segment.proofs.HeaderLaid.{number_length_lem, header_length_lem}
use Rattle.segment.proofs.Cases.{fields_at, head_good, header_is, payload_good, payload_is}

-- ---- the header

module _ (f : Form) (h : Header) (s : List ℕ) (there : Holds s 0 (header_bytes f h)) where
  number_there : take (number_length f) s ≡ number_bytes f h
  unfolding header_bytes
  number_there =
      ap (λ (k : ℕ). take k s) (sym (number_length_lem f h)) ∙ (holds_left s 0 (number_bytes f h) (le_digits check_length (crc24 (number_bytes f h))) there).is

  check_there : part s (number_length f) check_length ≡ le_digits check_length (crc24 (number_bytes f h))
  unfolding header_bytes
  check_there =
      ap₂ (λ (i k : ℕ). part s i k) (sym (zero-add (length (number_bytes f h)) ∙ number_length_lem f h)) (sym (length_le check_length (crc24 (number_bytes f h))))
      ∙ (holds_right s 0 (number_bytes f h) (le_digits check_length (crc24 (number_bytes f h))) there).is

  number_bytes_lem : Bytes (number_bytes f h)
  unfolding number_bytes
  number_bytes_lem = bytes_le (number_length f) (header_number f h)

  check_holds : checked f s ≡ true
  check_holds =
      eq-eqb (le (part s (number_length f) check_length)) (crc24 (take (number_length f) s))
      (ap le check_there ∙ le_digits_fit check_length (crc24 (number_bytes f h)) (crc24_below (number_bytes f h) number_bytes_lem) ∙ ap crc24 (sym number_there))

  fields_there : Fits f h → fields_at f s ≡ h
  unfolding number_bytes
  fields_there fit =
      ap (λ (l : List ℕ). fields_of f (le l)) number_there
      ∙ ap (fields_of f) (le_digits_fit (number_length f) (header_number f h) (lt_of_lt_of_le (number_below f h) (used_within f)))
      ∙ fields_back f h fit

  pub header_back : Fits f h → h.uncompressed ≡ 0 → header_at f s ≡ whole h
  header_back fit none =
      let e : fields_at f s ≡ h = fields_there fit in
      let l : length (header_bytes f h) ≡ header_length f = header_length_lem f h in
      let room : 0 + length (header_bytes f h) ≤ length s = there.room in
      header_is f s (head_good (omega (arith, zero-add (length (header_bytes f h)))) check_holds (ap (λ (x : Header). eqb x.uncompressed 0) e ∙ eq-eqb h.uncompressed 0 none))
      ∙ ap whole e

-- ---- the segment

module _ (f : Form) (self : Bool) (payload : List ℕ) (small : length payload ≤ max_payload) (s : List ℕ) (there : Holds s 0 (segment_bytes f self payload)) where
  abbrev h : Header
  h = header (length payload) 0 self

  rest_there : Holds s (header_length f) (payload ++ trailer_bytes payload)
  unfolding segment_bytes
  rest_there =
      subst (λ (k : ℕ). Holds s k (payload ++ trailer_bytes payload)) (zero-add (length (header_bytes f h)) ∙ header_length_lem f h)
      (holds_right s 0 (header_bytes f h) (payload ++ trailer_bytes payload) there)

  header_there : header_at f s ≡ whole h
  unfolding segment_bytes
  header_there =
      header_back f h s (holds_left s 0 (header_bytes f h) (payload ++ trailer_bytes payload) there)
      (record { payload = omega arith; uncompressed = omega arith; none = λ e. refl }) refl

  payload_there : part s (header_length f) (length payload) ≡ payload
  payload_there = (holds_left s (header_length f) payload (trailer_bytes payload) rest_there).is

  trailer_there : part s (header_length f + length payload) trailer_length ≡ trailer_bytes payload
  trailer_there =
      let r = holds_right s (header_length f) payload (trailer_bytes payload) rest_there in
      ap (λ (k : ℕ). part s (header_length f + length payload) k) (sym (length_le trailer_length (crc32 payload))) ∙ r.is

  pub segment_back : segment_at f s ≡ whole (segment self payload)
  unfolding segment_at
  segment_back =
      let r = holds_right s (header_length f) payload (trailer_bytes payload) rest_there in
      let l : length (trailer_bytes payload) ≡ trailer_length = length_le trailer_length (crc32 payload) in
      let room : header_length f + length payload + length (trailer_bytes payload) ≤ length s = r.room in
      ap (λ (x : Front Refusal Header). if_whole x (payload_at f s)) header_there
      ∙ payload_is f s h
      (payload_good (omega arith)
      (eq-eqb (le (part s (header_length f + length payload) trailer_length)) (crc32 (part s (header_length f) (length payload)))
      (ap le trailer_there ∙ le_digits_fit trailer_length (crc32 payload) (crc32_below payload) ∙ ap crc32 (sym payload_there))))
      ∙ ap (λ (l : List ℕ). whole (segment self l)) payload_there
