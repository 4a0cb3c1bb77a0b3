-- What the checks of a segment writer say, and what is known where they have passed. Assumes nothing.
use Prim.Native.Nat.{ℕ, ◌+◌, ◌≤◌, ◌<◌}
use mathlib.Core.Path.{◌≡◌, ap}
use mathlib.Core.Bool.{true}
use mathlib.Core.List.{List}
use native.Mathlib.Omega.{arith}
use Rattle.std.proofs.lemmas.Bool.Decides.{nat_tests}
use borrow.Author.Tests.{leb-true, ltb-true, eqb-true}
use lib.Dec.{leb, eqb}
use Rattle.refusal.specs.Refusal.{inadmissible, output_too_short, envelope_does_not_fit, segment_not_empty}
use Rattle.types.specs.Write.{Check, fine}
use Rattle.types.proofs.Cut.{demand_fine}
use Rattle.segment.specs.Header.{lengths}
use Rattle.segment.specs.Segment.{max_payload, segment_length}
use Rattle.frame_encoder.specs.Writer.{Writer, Done, unless, fits, room_for, add_check, finish_check, piece_of, piece_check}

-- ---- whether an envelope fits

module _ (w : Writer) (n : ℕ) where
  pub fits_small : fits w n ≡ true → w.payload + n ≤ max_payload
  unfolding fits
  fits_small e = omega (arith, ltb-true (w.payload + n) lengths e)

-- ---- where the checks have passed

pub record AddFine (w : Writer) (room n : ℕ) : Type 0 where
  pub small : w.payload + n ≤ max_payload
  pub enough : segment_length w.form (w.payload + n) ≤ room

pub add_fine : (w : Writer) (room n : ℕ) → add_check w room n ≡ fine → AddFine w room n
unfolding add_check
add_fine w room n e =
    let a = demand_fine (leb w.payload max_payload) inadmissible _ e in
    let b = demand_fine (fits w n) envelope_does_not_fit _ a.1 in
    let c = demand_fine (room_for w (w.payload + n) room) output_too_short fine b.1 in
    record { small = fits_small w n b.0; enough = leb-true (segment_length w.form (w.payload + n)) room c.0 }

pub record FinishFine (w : Writer) (room : ℕ) : Type 0 where
  pub small : w.payload ≤ max_payload
  pub enough : segment_length w.form w.payload ≤ room

pub finish_fine : (w : Writer) (room : ℕ) → finish_check w room ≡ fine → FinishFine w room
unfolding finish_check
finish_fine w room e =
    let a = demand_fine (leb w.payload max_payload) inadmissible _ e in
    let c = demand_fine (room_for w w.payload room) output_too_short fine a.1 in
    record { small = leb-true w.payload max_payload a.0; enough = leb-true (segment_length w.form w.payload) room c.0 }

pub record PieceFine (w : Writer) (room n : ℕ) : Type 0 where
  pub empty : w.payload ≡ 0
  pub enough : segment_length w.form (piece_of n) ≤ room

pub piece_fine : (w : Writer) (room n : ℕ) → piece_check w room n ≡ fine → PieceFine w room n
unfolding piece_check
piece_fine w room n e =
    let a = demand_fine (leb w.payload max_payload) inadmissible _ e in
    let b = demand_fine (eqb w.payload 0) segment_not_empty _ a.1 in
    let c = demand_fine (room_for w (piece_of n) room) output_too_short fine b.1 in
    record { empty = eqb-true w.payload 0 b.0; enough = leb-true (segment_length w.form (piece_of n)) room c.0 }

-- ---- the piece of an envelope

pub piece_most : (n : ℕ) → (piece_of n ≤ n) × (piece_of n ≤ max_payload)
unfolding piece_of
piece_most n = grind (arith, nat_tests)

pub piece_some : (n : ℕ) → 0 < n → 0 < piece_of n
unfolding piece_of
piece_some n some = grind (arith, nat_tests)

-- ---- what a call leaves

pub unless_fine : {c : Check} (w : Writer) (out : List ℕ) (d : Done) → c ≡ fine → unless c w out d ≡ d
unless_fine w out d e = ap (λ (c : Check). unless c w out d) e
