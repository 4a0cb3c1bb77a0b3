-- Envelopes one after the other: the equations of `envelopes_in`, by what stands at the front. Assumes nothing.
use Prim.Native.Nat.{ℕ, zero, suc, ◌+◌, ◌≤◌, pred}
use mathlib.Core.Path.{◌≡◌, refl, sym, ap, ◌∙◌}
use mathlib.Core.List.{List, [], ◌∷◌}
use native.Mathlib.Omega.{arith}
use lib.ListN.{take, drop}
use Rattle.basis.specs.Front.{Front, incomplete, refuses, whole}
use Rattle.basis.specs.Machine.{dated, says, refused_after}
use Rattle.basis.proofs.Fronts.{not_refused}
use Rattle.refusal.specs.Refusal.{Refusal}
use Rattle.types.specs.Read.{place}
use Rattle.frame.specs.Envelope.{Envelope, envelope}
use Rattle.frame.proofs.Cases.{short, size_is}
use Rattle.frame.proofs.Bounds.{nine_or_more, within_bytes, size_unfinished}
use Rattle.frame_decoder.specs.Reader.{Buffer}
use Rattle.stream.specs.Meaning.{Meaning, envelope_of, by_front, envelopes_in}

-- no bytes are no envelope
pub nothing_there : envelope [] ≡ incomplete
nothing_there = size_unfinished [] (size_is [] (short (omega arith)))

module _ (taken : ℕ) (buffer : Buffer) (goes_on : List ℕ → Meaning) where
  passed_over : (at n : ℕ) (s : List ℕ) → envelopes_in taken buffer at n s goes_on ≡ envelopes_in taken buffer (at + n) 0 (drop n s) goes_on
  unfolding envelopes_in
  passed_over at zero [] = refl
  passed_over at (suc n) [] = refl
  passed_over at zero (b ∷ s) = ap (λ (k : ℕ). envelopes_in taken buffer k 0 (b ∷ s) goes_on) (let i : at ≡ at + 0 = omega arith in i)
  passed_over at (suc n) (b ∷ s) =
      passed_over (suc at) n s ∙ ap (λ (k : ℕ). envelopes_in taken buffer k 0 (drop n s) goes_on) (let i : suc at + n ≡ at + suc n = omega arith in i)

  by : ℕ → ℕ → List ℕ → Front Refusal Envelope → Meaning
  by at b s f = by_front f taken buffer at (b ∷ s) goes_on (λ skip. envelopes_in taken buffer (suc at) skip s goes_on)

  module _ (at : ℕ) where
    pub none_whole : (s : List ℕ) → envelope s ≡ incomplete → envelopes_in taken buffer at 0 s goes_on ≡ goes_on s
    unfolding envelopes_in by
    none_whole [] e = refl
    none_whole (b ∷ s) e = ap (by at b s) e

    pub first_refused : (s : List ℕ) (why : Refusal) → envelope s ≡ refuses why → envelopes_in taken buffer at 0 s goes_on ≡ refused_after why taken
    unfolding envelopes_in by
    first_refused [] why e = absurd (not_refused (sym nothing_there ∙ e))
    first_refused (b ∷ s) why e = ap (by at b s) e

    pub first_whole : (s : List ℕ) (v : Envelope) → envelope s ≡ whole v
        → envelopes_in taken buffer at 0 s goes_on
        ≡ says (dated taken (envelope_of buffer (place at v.size) (take v.size s) v)) (envelopes_in taken buffer (at + v.size) 0 (drop v.size s) goes_on)
    unfolding envelopes_in by
    first_whole [] v e = absurd (omega (arith, nine_or_more [] e, within_bytes [] e))
    first_whole (b ∷ s) v e =
        ap (by at b s) e
        ∙ ap (says (dated taken (envelope_of buffer (place at v.size) (take v.size (b ∷ s)) v)))
        (passed_over (suc at) (pred v.size) s ∙ one_less v.size (omega (arith, nine_or_more (b ∷ s) e)))
      where
        one_less : (n : ℕ) → 1 ≤ n → envelopes_in taken buffer (suc at + pred n) 0 (drop (pred n) s) goes_on ≡ envelopes_in taken buffer (at + n) 0 (drop n (b ∷ s)) goes_on
        one_less zero h = absurd (omega arith)
        one_less (suc n) h = ap (λ (k : ℕ). envelopes_in taken buffer k 0 (drop n s) goes_on) (let i : suc at + n ≡ at + suc n = omega arith in i)
