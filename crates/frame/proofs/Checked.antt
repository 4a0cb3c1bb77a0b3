-- What speaks against writing an envelope, as the code finds it: by the lengths of what is given. Assumes nothing.
use Prim.Native.Nat.{ℕ, ◌+◌, ◌≤◌, ◌<◌}
use mathlib.Core.Path.{◌≡◌, refl, sym, ap, ◌∙◌}
use mathlib.Core.Bool.{Bool, true, false, cond}
use mathlib.Core.List.{List, []}
use mathlib.Core.Logic.{◌⊎◌, inl, inr, ⊎_elim}
use native.Mathlib.Omega.{arith}
use borrow.Author.Tests.{le-leb, lt-leb, leb-true}
use lib.Dec.{leb}
use lib.ListN.{length, length-append}
use Rattle.refusal.specs.Refusal.{Refusal, not_writable}
use Rattle.types.specs.Write.{fine, against, demand, cut_by, list_bytes, lengths_fit, list_check, max_short}
use Rattle.types.proofs.Put.{demanded, denied}
use Rattle.types.proofs.Cut.{both_true, demand_fine, list_length}
use Rattle.frame.specs.Header.{Header, known_version, known_opcode, has_id, has_warnings}
use Rattle.frame.specs.Write.{Content, id_part, warnings_part, tail_bytes, max_flags, max_body, id_fits, warning_fits, flags_fit, head_fits, warnings_check, envelope_check}
use Rattle.frame.specs.Private.Inside.{id_size, warnings_size, tail_size, Planned}

-- ---- the parts that a header asks for

module _ (h : Header) where
  pub id_is : (id : List ℕ) {there : Bool} → has_id h ≡ there → id_part h id ≡ cond there id []
  unfolding id_part
  id_is id e = ap (λ (t : Bool). cond t id []) e

  pub list_is : (text lens : List ℕ) {there : Bool} → has_warnings h ≡ there → warnings_part h text lens ≡ cond there (list_bytes (cut_by text lens)) []
  unfolding warnings_part
  list_is text lens e = ap (λ (t : Bool). cond t (list_bytes (cut_by text lens)) []) e

  pub check_is : (text lens : List ℕ) {there : Bool} → has_warnings h ≡ there → warnings_check h text lens ≡ cond there (list_check text lens) fine
  unfolding warnings_check
  check_is text lens e = ap (λ (t : Bool). cond t (list_check text lens) fine) e

-- ---- how long they are

id_size_lem : (h : Header) (id : List ℕ) → length (id_part h id) ≡ id_size h (length id)
unfolding id_part
id_size_lem h id = go (has_id h)
  where
    go : (t : Bool) → length (cond t id []) ≡ cond t (length id) 0
    go true = refl
    go false = refl

pub tail_length : (h : Header) (c : Content) → length (tail_bytes h c) ≡ length (id_part h c.id) + (length (warnings_part h c.text c.lens) + length c.body)
unfolding tail_bytes
tail_length h c =
    length-append (id_part h c.id) _ ∙ ap (λ (k : ℕ). length (id_part h c.id) + k) (length-append (warnings_part h c.text c.lens) c.body)

either : (t : Bool) → demand t not_writable (against not_writable) ≡ against not_writable
either true = refl
either false = refl

not_fine : {why : Refusal} → fine ≡ against why → ⊥
not_fine e = let z : ◌≡◌ {A = ℕ} 0 1 = cc in omega arith

unfit : (text lens : List ℕ) → lengths_fit (length text) lens ≡ false → list_check text lens ≡ against not_writable
unfolding list_check
unfit text lens e = ap (demand (leb (length lens) max_short) not_writable) (denied not_writable _ e) ∙ either (leb (length lens) max_short)

-- the length that the lengths of what is given add up to
abbrev pub given_size : Header → Content → ℕ
given_size h c = tail_size h (length c.id) (length c.text) (length c.lens) (length c.body)

module _ (h : Header) (c : Content) where
  by_parts : (t : Bool) → has_warnings h ≡ t → length (warnings_part h c.text c.lens) ≡ cond t (2 + length c.lens + length c.lens + length c.text) 0
      → length (tail_bytes h c) ≡ given_size h c
  by_parts t e l =
      let i : length (id_part h c.id) ≡ id_size h (length c.id) = id_size_lem h c.id in
      let w : warnings_size h (length c.text) (length c.lens) ≡ length (warnings_part h c.text c.lens) =
      ap (λ (u : Bool). cond u (2 + length c.lens + length c.lens + length c.text) 0) e ∙ sym l
      in
      tail_length h c ∙ omega arith

  -- it is the length of the bytes, or the list is refused for its lengths
  measured : (length (tail_bytes h c) ≡ given_size h c) ⊎ (warnings_check h c.text c.lens ≡ against not_writable)
  measured = by_warnings (has_warnings h) refl
    where
      by_lengths : has_warnings h ≡ true → (t : Bool) → lengths_fit (length c.text) c.lens ≡ t
          → (length (tail_bytes h c) ≡ given_size h c) ⊎ (warnings_check h c.text c.lens ≡ against not_writable)
      by_lengths e true f = inl (by_parts true e (ap length (list_is h c.text c.lens e) ∙ list_length c.text c.lens f ∙ omega arith))
      by_lengths e false f = inr (check_is h c.text c.lens e ∙ unfit c.text c.lens f)

      by_warnings : (t : Bool) → has_warnings h ≡ t → (length (tail_bytes h c) ≡ given_size h c) ⊎ (warnings_check h c.text c.lens ≡ against not_writable)
      by_warnings true e = by_lengths e (lengths_fit (length c.text) c.lens) refl
      by_warnings false e = inl (by_parts false e (ap length (list_is h c.text c.lens e)))

  -- ---- the ways through the checks

  pub head_unfit : head_fits h (length c.id) ≡ false → envelope_check h c ≡ against not_writable
  unfolding envelope_check
  head_unfit e = denied not_writable _ e

  module _ (fit : head_fits h (length c.id) ≡ true) where
    from_head : envelope_check h c ≡ demand (leb (length (tail_bytes h c)) max_body) not_writable (warnings_check h c.text c.lens)
    unfolding envelope_check
    from_head = demanded not_writable _ fit

    from_length : given_size h c ≤ max_body → length (tail_bytes h c) ≡ given_size h c → envelope_check h c ≡ warnings_check h c.text c.lens
    from_length small e = from_head ∙ demanded not_writable _ (le-leb (length (tail_bytes h c)) max_body (omega arith))

    refused_for_lengths : warnings_check h c.text c.lens ≡ against not_writable → envelope_check h c ≡ against not_writable
    refused_for_lengths e = from_head ∙ ap (demand (leb (length (tail_bytes h c)) max_body) not_writable) e ∙ either (leb (length (tail_bytes h c)) max_body)

    pub body_long : max_body < given_size h c → envelope_check h c ≡ against not_writable
    body_long large =
        ⊎_elim (λ e. from_head ∙ denied not_writable _ (lt-leb (length (tail_bytes h c)) max_body (omega arith))) refused_for_lengths measured

    pub warnings_unfit : {why : Refusal} → given_size h c ≤ max_body → warnings_check h c.text c.lens ≡ against why → envelope_check h c ≡ against why
    warnings_unfit small bad = ⊎_elim (λ e. from_length small e ∙ bad) (λ e. refused_for_lengths e ∙ sym e ∙ bad) measured

    pub all_fit : given_size h c ≤ max_body → warnings_check h c.text c.lens ≡ fine → Planned h c (given_size h c)
    all_fit small good =
        ⊎_elim (λ e. record { check = from_length small e ∙ good; is = sym e }) (λ e. absurd (not_fine (sym good ∙ e))) measured

-- ---- what is known where nothing speaks against it

pub record Fits (h : Header) (c : Content) : Type 0 where
  pub version : known_version h.version ≡ true
  pub opcode : known_opcode h.opcode ≡ true
  pub flags : h.flags ≤ max_flags
  pub id : id_fits h (length c.id) ≡ true
  pub warning : warning_fits h ≡ true
  pub body : length (tail_bytes h c) ≤ max_body
  pub warnings : warnings_check h c.text c.lens ≡ fine

pub fields_fit : (h : Header) (c : Content) → envelope_check h c ≡ fine → Fits h c
unfolding envelope_check head_fits flags_fit
fields_fit h c e =
    let n = length c.id in
    let head = demand_fine (head_fits h n) not_writable _ e in
    let body = demand_fine (leb (length (tail_bytes h c)) max_body) not_writable _ head.1 in
    let version = both_true (known_version h.version) _ head.0 in
    let opcode = both_true (known_opcode h.opcode) _ version.1 in
    let flags = both_true (leb h.flags max_flags) _ opcode.1 in
    let id = both_true (id_fits h n) (warning_fits h) flags.1 in
    record {
      version = version.0;
      opcode = opcode.0;
      flags = leb-true h.flags max_flags flags.0;
      id = id.0;
      warning = id.1;
      body = leb-true (length (tail_bytes h c)) max_body body.0;
      warnings = body.1;
    }

pub version_small : (v : ℕ) → known_version v ≡ true → v ≤ 5
unfolding known_version
version_small v e = leb-true v 5 (both_true (leb 3 v) (leb v 5) e).1
