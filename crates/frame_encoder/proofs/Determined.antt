-- Each public function's contract leaves nothing open: a line for each. Of those that write, the answer and what the output then holds.
-- Assumes nothing.
use Prim.Native.Nat.{ℕ}
use mathlib.Core.Path.{◌≡◌, refl, sym, ◌∙◌}
use mathlib.Core.List.{List}
use lib.Dec.{ltb}
use denote.Ref.{MutBor}
use Rattle.basis.specs.Determined.{Determined, DeterminedAs, DeterminedLent}
use Rattle.basis.proofs.Determined.{by_equation, by_meaning, told_apart}
use Rattle.segment.specs.Paper.{paper_form}
use Rattle.frame_encoder.specs.Writer.{Done, fresh, fits, add, finish, piece}
use Rattle.frame_encoder.specs.Paper.{paper_writer, paper_step}
use Rattle.frame_encoder.specs.declared.Step.{Step}
use Rattle.frame_encoder.proofs.Told.{encoder_told, Lent, lent_told, Outcome, outcome_told}
use Rattle.frame_encoder.proofs.FrameEncoder.new.Reads as news
use Rattle.frame_encoder.proofs.FrameEncoder.can_fit.Reads as fittings
use Rattle.frame_encoder.proofs.FrameEncoder.has_envelopes.Reads as havings
use Rattle.frame_encoder.proofs.FrameEncoder.reset.Reads as resets
use Rattle.frame_encoder.proofs.FrameEncoder.add_envelope.Reads as adds
use Rattle.frame_encoder.proofs.FrameEncoder.finalize_self_contained.Reads as finishes
use Rattle.frame_encoder.proofs.FrameEncoder.finalize_non_self_contained.Reads as pieces
use Rattle.frame_encoder.specs.contracts.FrameEncoder.reset_mut as lent-resets
use Rattle.frame_encoder.specs.contracts.FrameEncoder.add_envelope_mut as lent-adds
use Rattle.frame_encoder.specs.contracts.FrameEncoder.finalize_self_contained_mut as lent-finishes
use Rattle.frame_encoder.specs.contracts.FrameEncoder.finalize_non_self_contained_mut as lent-pieces

pub new_determined : Determined news.Post
new_determined = by_meaning encoder_told (λ κs a. fresh (paper_form a.0))

pub can_fit_determined : Determined fittings.Post
can_fit_determined = by_equation (λ κs a. fits (paper_writer a.0) a.1.0)

pub has_envelopes_determined : Determined havings.Post
has_envelopes_determined = by_equation (λ κs a. ltb 0 a.0.payload)

pub reset_determined : Determined resets.Post
reset_determined = by_meaning encoder_told (λ κs a. fresh (paper_form a.0.form))

-- the output is lent second
by_step {ℓ} :
    {Lifetimes : Type ℓ} {Arguments First Others : Lifetimes → Type 0} (does : (κs : Lifetimes) → Arguments κs → Done)
    → DeterminedAs {Answer = λ κs. Step} {Exit = λ κs. First κs × (MutBor (List ℕ) × Others κs)} {Seen = Outcome} (λ κs r e. (r, e.1.0.now)) (λ κs a r e. paper_step r e.1.0.now ≡ does κs a)
by_step does = record { same = λ κs a r s e f p q. told_apart outcome_told (r, e.1.0.now) (s, f.1.0.now) (p ∙ sym q) }

pub add_envelope_determined : DeterminedAs {Seen = Outcome} (λ κs r e. (r, e.1.0.now)) adds.Post
add_envelope_determined = by_step (λ κs a. add (paper_writer a.0) a.1.0.now a.1.1.0.now)

pub finalize_self_contained_determined : DeterminedAs {Seen = Outcome} (λ κs r e. (r, e.1.0.now)) finishes.Post
finalize_self_contained_determined = by_step (λ κs a. finish (paper_writer a.0) a.1.0.now)

pub finalize_non_self_contained_determined : DeterminedAs {Seen = Outcome} (λ κs r e. (r, e.1.0.now)) pieces.Post
finalize_non_self_contained_determined = by_step (λ κs a. piece (paper_writer a.0) a.1.0.now a.1.1.0.now)

-- Of those that take the writer by reference, the writer too.
pub reset_mut_determined : DeterminedLent lent-resets.ended (λ M 𝓤. lent-resets.clauses) (λ κs r e. e.0.now)
reset_mut_determined =
    record { Claim = _; own = λ M 𝓤 𝓛 at_mem run κs a g r e. refl; decides = record { same = λ κs a r s e f p q. told_apart encoder_told _ _ (p ∙ sym q) } }

pub add_envelope_mut_determined : DeterminedLent lent-adds.ended (λ M 𝓤. lent-adds.clauses) {Seen = Lent} (λ κs r e. ((e.0.now, r), e.1.0.now))
add_envelope_mut_determined =
    record { Claim = _; own = λ M 𝓤 𝓛 at_mem run κs a g r e. refl; decides = record { same = λ κs a r s e f p q. told_apart lent_told _ _ (p ∙ sym q) } }

pub finalize_self_contained_mut_determined : DeterminedLent lent-finishes.ended (λ M 𝓤. lent-finishes.clauses) {Seen = Lent} (λ κs r e. ((e.0.now, r), e.1.0.now))
finalize_self_contained_mut_determined =
    record { Claim = _; own = λ M 𝓤 𝓛 at_mem run κs a g r e. refl; decides = record { same = λ κs a r s e f p q. told_apart lent_told _ _ (p ∙ sym q) } }

pub finalize_non_self_contained_mut_determined : DeterminedLent lent-pieces.ended (λ M 𝓤. lent-pieces.clauses) {Seen = Lent} (λ κs r e. ((e.0.now, r), e.1.0.now))
finalize_non_self_contained_mut_determined =
    record { Claim = _; own = λ M 𝓤 𝓛 at_mem run κs a g r e. refl; decides = record { same = λ κs a r s e f p q. told_apart lent_told _ _ (p ∙ sym q) } }
