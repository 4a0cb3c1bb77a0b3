-- The definitions of reading, case by case: each case says what holds where it is met, and what holds says the case. Assumes nothing.
use Prim.Native.Nat.{ℕ, ◌+◌, ◌≤◌, ◌<◌}
use mathlib.Core.Path.{◌≡◌, refl, sym, ap, ◌∙◌, subst}
use mathlib.Core.Bool.{Bool, true, false, cond}
use mathlib.Core.List.{List}
use mathlib.Core.Option.{Option, none, some}
use native.Mathlib.Omega.{arith}
use borrow.Author.Tests.{lt-ltb, le-ltb, ltb-true, ltb-false}
use lib.Dec.{ltb}
use lib.ListN.{length, take}
use Rattle.refusal.specs.Refusal.{Refusal, negative_length, unknown_version, unknown_opcode, tracing_id_cut_short}
use Rattle.types.specs.Answer.{Answer, got, refused}
use Rattle.types.specs.Read.{Strings, strings, string_list_at}
use Rattle.frame.specs.Header.{Header, header_of, known_version, known_opcode, has_warnings}
use Rattle.basis.specs.Front.{Front, incomplete, refuses, whole, if_whole}
use Rattle.frame.specs.Envelope.{declared, sized, size_of, Envelope, envelope_with, after_id, warnings_at, read_as, within, inside, envelope}
use Rattle.basis.proofs.Fronts.{not_whole, refused_not_whole, whole_value}

-- ---- how long an envelope is

pub data Sizes (s : List ℕ) : Front Refusal ℕ → Type 0 where
  short : length s < 9 → Sizes s incomplete
  negative : 9 ≤ length s → declared s ≡ none → Sizes s (refuses negative_length)
  cut : {n : ℕ} → 9 ≤ length s → declared s ≡ some n → length s < 9 + n → Sizes s incomplete
  unknown : {n : ℕ} → declared s ≡ some n → 9 + n ≤ length s → known_version (header_of s).version ≡ false → Sizes s (refuses unknown_version)
  fits : {n : ℕ} → declared s ≡ some n → 9 + n ≤ length s → known_version (header_of s).version ≡ true → Sizes s (whole (9 + n))

module _ (s : List ℕ) where
  from_nine : 9 ≤ length s → size_of s ≡ sized s (declared s)
  unfolding size_of
  from_nine h = ap (λ t. cond t incomplete (sized s (declared s))) (le-ltb (length s) 9 h)

  judged : {n : ℕ} → declared s ≡ some n → 9 + n ≤ length s → size_of s ≡ cond (known_version (header_of s).version) (whole (9 + n)) (refuses unknown_version)
  unfolding sized
  judged {n} e h =
      let nine : 9 ≤ length s = omega arith in
      from_nine nine ∙ ap (sized s) e ∙ rw (le-ltb (length s) (9 + n) h)

  pub size_is : {f : Front Refusal ℕ} → Sizes s f → size_of s ≡ f
  unfolding sized size_of
  size_is (short h) = ap (λ t. cond t incomplete (sized s (declared s))) (lt-ltb (length s) 9 h)
  size_is (negative h e) = from_nine h ∙ ap (sized s) e
  size_is (cut {n} h e l) = from_nine h ∙ ap (sized s) e ∙ rw (lt-ltb (length s) (9 + n) l)
  size_is (unknown {n} e h v) = judged e h ∙ ap (λ t. cond t (whole (9 + n)) (refuses unknown_version)) v
  size_is (fits {n} e h v) = judged e h ∙ ap (λ t. cond t (whole (9 + n)) (refuses unknown_version)) v

  pub size_case : Sizes s (size_of s)
  size_case = by_length (ltb (length s) 9) refl
    where
      met : {f : Front Refusal ℕ} → Sizes s f → Sizes s (size_of s)
      met {f} c = subst (λ (x : Front Refusal ℕ). Sizes s x) (sym (size_is c)) c

      by_version : (n : ℕ) → declared s ≡ some n → 9 + n ≤ length s → (t : Bool) → known_version (header_of s).version ≡ t → Sizes s (size_of s)
      by_version n e h true v = met (fits e h v)
      by_version n e h false v = met (unknown e h v)

      by_end : 9 ≤ length s → (n : ℕ) → declared s ≡ some n → (t : Bool) → ltb (length s) (9 + n) ≡ t → Sizes s (size_of s)
      by_end h n e true l = met (cut h e (ltb-true (length s) (9 + n) l))
      by_end h n e false l = by_version n e (ltb-false (length s) (9 + n) l) (known_version (header_of s).version) refl

      by_declared : 9 ≤ length s → (d : Option ℕ) → declared s ≡ d → Sizes s (size_of s)
      by_declared h none e = met (negative h e)
      by_declared h (some n) e = by_end h n e (ltb (length s) (9 + n)) refl

      by_length : (t : Bool) → ltb (length s) 9 ≡ t → Sizes s (size_of s)
      by_length true l = met (short (ltb-true (length s) 9 l))
      by_length false l = by_declared (ltb-false (length s) 9 l) (declared s) refl

-- ---- what stands in the bytes of one envelope

pub data Withins (s : List ℕ) (h : Header) : Front Refusal Envelope → Type 0 where
  opcode_unknown : known_opcode h.opcode ≡ false → Withins s h (refuses unknown_opcode)
  id_cut : known_opcode h.opcode ≡ true → length s < after_id h → Withins s h (refuses tracing_id_cut_short)
  warnings_bad : {why : Refusal} → known_opcode h.opcode ≡ true → after_id h ≤ length s → warnings_at s h (after_id h) ≡ refused why → Withins s h (refuses why)
  read : {ws : Strings} {next : ℕ} → known_opcode h.opcode ≡ true → after_id h ≤ length s → warnings_at s h (after_id h) ≡ got ws next
      → Withins s h (whole (envelope_with (length s) h ws next))

module _ (s : List ℕ) (h : Header) where
  known : {t : Bool} → known_opcode h.opcode ≡ t
      → within s h ≡ cond t (cond (ltb (length s) (after_id h)) (refuses tracing_id_cut_short) (read_as (length s) h (warnings_at s h (after_id h)))) (refuses unknown_opcode)
  unfolding within
  known k = ap (λ t. cond t (cond (ltb (length s) (after_id h)) (refuses tracing_id_cut_short) (read_as (length s) h (warnings_at s h (after_id h)))) (refuses unknown_opcode)) k

  pub id_whole : known_opcode h.opcode ≡ true → after_id h ≤ length s → within s h ≡ read_as (length s) h (warnings_at s h (after_id h))
  id_whole k l = known k ∙ ap (λ t. cond t (refuses tracing_id_cut_short) (read_as (length s) h (warnings_at s h (after_id h)))) (le-ltb (length s) (after_id h) l)

  pub within_is : {f : Front Refusal Envelope} → Withins s h f → within s h ≡ f
  within_is (opcode_unknown k) = known k
  within_is (id_cut k l) = known k ∙ ap (λ t. cond t (refuses tracing_id_cut_short) (read_as (length s) h (warnings_at s h (after_id h)))) (lt-ltb (length s) (after_id h) l)
  within_is (warnings_bad k l e) = id_whole k l ∙ ap (read_as (length s) h) e
  within_is (read k l e) = id_whole k l ∙ ap (read_as (length s) h) e

  pub within_case : Withins s h (within s h)
  within_case = by_opcode (known_opcode h.opcode) refl
    where
      met : {f : Front Refusal Envelope} → Withins s h f → Withins s h (within s h)
      met {f} c = subst (λ (x : Front Refusal Envelope). Withins s h x) (sym (within_is c)) c

      by_warnings : known_opcode h.opcode ≡ true → after_id h ≤ length s → (a : Answer Strings) → warnings_at s h (after_id h) ≡ a → Withins s h (within s h)
      by_warnings k l (got ws next) e = met (read k l e)
      by_warnings k l (refused why) e = met (warnings_bad k l e)

      by_id : known_opcode h.opcode ≡ true → (t : Bool) → ltb (length s) (after_id h) ≡ t → Withins s h (within s h)
      by_id k true l = met (id_cut k (ltb-true (length s) (after_id h) l))
      by_id k false l = by_warnings k (ltb-false (length s) (after_id h) l) (warnings_at s h (after_id h)) refl

      by_opcode : (t : Bool) → known_opcode h.opcode ≡ t → Withins s h (within s h)
      by_opcode true k = by_id k (ltb (length s) (after_id h)) refl
      by_opcode false k = met (opcode_unknown k)

-- ---- the warnings

pub warnings_are : (s : List ℕ) (h : Header) (at : ℕ) {there : Bool} → has_warnings h ≡ there → warnings_at s h at ≡ cond there (string_list_at s at) (got (strings 0 at) at)
unfolding warnings_at
warnings_are s h at w = ap (λ t. cond t (string_list_at s at) (got (strings 0 at) at)) w

-- ---- the size, and what is read

-- an envelope that is there, with the number of bytes that its header declares
pub record Sized (s : List ℕ) (n : ℕ) : Type 0 where
  pub body : ℕ
  pub is : 9 + body ≡ n
  pub declares : declared s ≡ some body
  pub room : 9 + body ≤ length s
  pub version : known_version (header_of s).version ≡ true

pub size_found : (s : List ℕ) (n : ℕ) → size_of s ≡ whole n → Sized s n
size_found s n e = go (size_case s) e
  where
    go : {f : Front Refusal ℕ} → Sizes s f → f ≡ whole n → Sized s n
    go (short h) e = absurd (not_whole e)
    go (negative h d) e = absurd (refused_not_whole e)
    go (cut h d l) e = absurd (not_whole e)
    go (unknown d h v) e = absurd (refused_not_whole e)
    go (fits {n = b} d h v) e = record { body = b; is = whole_value e; declares = d; room = h; version = v }

pub envelope_is : (s : List ℕ) {f : Front Refusal ℕ} → size_of s ≡ f → envelope s ≡ if_whole f (λ n. inside (take n s))
unfolding envelope
envelope_is s e = ap (λ (f : Front Refusal ℕ). if_whole f (λ n. inside (take n s))) e
