-- An envelope that was written is read back as the fields that were given, whatever follows it. Assumes nothing.
use Prim.Native.Nat.{ℕ, ◌+◌, ◌*◌, ◌-◌, ◌/◌, ◌%◌, ◌≤◌, ◌<◌}
use mathlib.Core.Path.{◌≡◌, refl, sym, ap, ap₂, ◌∙◌, subst}
use mathlib.Core.Bool.{Bool, true, false, cond, ◌&&◌}
use mathlib.Core.List.{List, [], ◌++◌, append_assoc, append-nil}
use mathlib.Core.Option.{some}
use native.Mathlib.Nat.{add-zero, zero-add, add-sub_cancel_left}
use native.Mathlib.Omega.{arith}
use borrow.Author.Tests.{le-leb, lt-leb, eqb-true}
use lib.Dec.{leb, eqb}
use lib.ListN.{length, drop, length-append, take-append-drop}
use lib.Seq.{take-length, take_at}
use mir.Syntax.{w16, w32}
use mir.Val.{to_z, of_z, SFits}
use mir.ValLaws.{to_z-of_z, of_z_fits}
use Rattle.types.specs.Answer.{got}
use Rattle.types.specs.Number.{be, digits}
use Rattle.types.specs.Read.{place, Strings, strings, bytes_in, natural, strings_at, texts_in, texts_of}
use Rattle.types.specs.Write.{fine, cut_by, list_bytes, list_check, Wrote}
use Rattle.types.proofs.BigEndian.{be_digits_fit}
use Rattle.types.specs.ThereAndBack.{Holds, Stands}
use Rattle.types.proofs.Holds.{holds_left, holds_right, holds_bytes, accepted}
use Rattle.types.proofs.Lists.{list_texts, list_back}
use Rattle.types.proofs.Reading.{natural_some}
use Rattle.frame.specs.Header.{Header, header_of, flag, has_id, has_warnings, known_version}
use Rattle.basis.specs.Front.{whole}
use Rattle.frame.specs.Envelope.{declared, size_of, Envelope, envelope_with, after_id, warnings_at, within, inside, envelope, id_in, body_in, warnings_in}
use Rattle.frame.specs.Write.{Content, id_part, warnings_part, tail_bytes, header_bytes, envelope_bytes, envelope_check, cleared, texts_part}
use Rattle.frame.specs.ThereAndBack.{ReadBack}
use Rattle.frame.proofs.Cases.{fits, size_is, read, within_is, warnings_are, envelope_is}
use Rattle.frame.proofs.Checked.{Fits, fields_fit, version_small, list_is, check_is, tail_length}
use Rattle.frame.proofs.Laid.{header_length_lem, envelope_length}

-- ---- flags without 01

flag_two : (f : ℕ) → flag 2 (f / 2 * 2) ≡ flag 2 f
flag_two f = let e : f / 2 * 2 / 2 % 2 ≡ f / 2 % 2 = omega arith in ap (λ (k : ℕ). eqb k 1) e

flag_eight : (f : ℕ) → flag 8 (f / 2 * 2) ≡ flag 8 f
flag_eight f = let e : f / 2 * 2 / 8 % 2 ≡ f / 8 % 2 = omega arith in ap (λ (k : ℕ). eqb k 1) e

module _ (h : Header) where
  pub cleared_id : has_id (cleared h) ≡ has_id h
  unfolding has_id cleared
  cleared_id = ap (λ (t : Bool). h.response && t) (flag_two h.flags)

  pub cleared_warnings : has_warnings (cleared h) ≡ has_warnings h
  unfolding has_warnings cleared
  cleared_warnings = flag_eight h.flags

-- ---- the header

module _ (h : Header) (n : ℕ) (q : List ℕ) (version : known_version h.version ≡ true) (flags : h.flags ≤ 31) (stream : SFits w16 h.stream) where
  small : h.version ≤ 5
  small = version_small h.version version

  pub header_back : header_of (header_bytes h n ++ q) ≡ cleared h
  unfolding header_of header_bytes digits cleared
  header_back = simp (by_seven h.response, high h.response, within_five, stream_back)
    where
      by_seven : (t : Bool) → (h.version + cond t 128 0) % 128 ≡ h.version
      by_seven true = omega (arith, small)
      by_seven false = omega (arith, small)

      high : (t : Bool) → leb 128 (h.version + cond t 128 0) ≡ t
      high true = le-leb 128 (h.version + 128) (omega arith)
      high false = lt-leb 128 (h.version + 0) (omega (arith, small))

      within_five : h.flags / 2 * 2 % 32 ≡ h.flags / 2 * 2
      within_five = omega (arith, flags)

      stream_back : to_z w16 (be (digits 2 (of_z w16 h.stream))) ≡ h.stream
      stream_back = ap (to_z w16) (be_digits_fit 2 (of_z w16 h.stream) (of_z_fits w16 h.stream stream).fits) ∙ to_z-of_z w16 h.stream stream

pub declared_back : (h : Header) (n : ℕ) (q : List ℕ) → n < 2147483648 → declared (header_bytes h n ++ q) ≡ some n
unfolding declared header_bytes digits
declared_back h n q small = ap (λ (x : ℕ). natural (to_z w32 x)) (be_digits_fit 4 n (omega arith)) ∙ natural_some w32 n small

-- ---- the warnings

-- where they begin, behind a tracing id that ends at a position
unfoldable pub strings_part : Header → Content → ℕ → Strings
strings_part h c at = cond (has_warnings h) (strings (length c.lens) (at + 2)) (strings 0 at)

module _ (h : Header) (c : Content) (fit : Fits h c) (s : List ℕ) (at : ℕ) (there : Holds s at (warnings_part h c.text c.lens)) where
  listed : has_warnings h ≡ true → Holds s at (list_bytes (cut_by c.text c.lens))
  listed w = subst (λ (l : List ℕ). Holds s at l) (list_is h c.text c.lens w) there

  writable : has_warnings h ≡ true → list_check c.text c.lens ≡ fine
  writable w = sym (check_is h c.text c.lens w) ∙ fit.warnings

  pub warnings_back : warnings_at s (cleared h) at ≡ got (strings_part h c at) (at + length (warnings_part h c.text c.lens))
  unfolding strings_part
  warnings_back = go (has_warnings h) refl
    where
      go : (t : Bool) → has_warnings h ≡ t
          → warnings_at s (cleared h) at ≡ got (cond (has_warnings h) (strings (length c.lens) (at + 2)) (strings 0 at)) (at + length (warnings_part h c.text c.lens))
      go true w =
          warnings_are s (cleared h) at (cleared_warnings h ∙ w)
          ∙ list_back c.text c.lens (writable w) s at (listed w)
          ∙ ap₂ (λ (x : Strings) (k : ℕ). got x (at + k))
          (sym (ap (λ (t : Bool). cond t (strings (length c.lens) (at + 2)) (strings 0 at)) w))
          (ap length (sym (list_is h c.text c.lens w)))
      go false w =
          warnings_are s (cleared h) at (cleared_warnings h ∙ w)
          ∙ ap₂ (λ (x : Strings) (k : ℕ). got x k)
          (sym (ap (λ (t : Bool). cond t (strings (length c.lens) (at + 2)) (strings 0 at)) w))
          (sym (ap (λ (l : List ℕ). at + length l) (list_is h c.text c.lens w) ∙ add-zero at))

  pub texts_back : texts_of s (strings_at s (strings_part h c at).left (strings_part h c at).at) ≡ texts_part h c
  unfolding strings_part texts_part strings_at texts_in
  texts_back = go (has_warnings h) refl
    where
      go : (t : Bool) → has_warnings h ≡ t
          → texts_of s (strings_at s (cond t (strings (length c.lens) (at + 2)) (strings 0 at)).left (cond t (strings (length c.lens) (at + 2)) (strings 0 at)).at)
          ≡ cond t (cut_by c.text c.lens) []
      go true w =
          let all = list_texts c.text c.lens (writable w) s at (listed w) in
          ap (texts_of s) all.0 ∙ all.1
      go false w = refl

-- ---- the whole

id_length_lem : (h : Header) (c : Content) → Fits h c → length (id_part h c.id) ≡ cond (has_id h) 16 0
unfolding id_part
id_length_lem h c fit = go (has_id h) fit.id
  where
    go : (t : Bool) → cond t (eqb (length c.id) 16) true ≡ true → length (cond t c.id []) ≡ cond t 16 0
    go true e = eqb-true (length c.id) 16 e
    go false e = refl

module _ (h : Header) (c : Content) where
  -- where the warnings begin, and where the body
  abbrev pub warnings_start : ℕ
  warnings_start = 9 + length (id_part h c.id)

  abbrev pub body_start : ℕ
  body_start = warnings_start + length (warnings_part h c.text c.lens)

  size_parts : length (envelope_bytes h c) ≡ body_start + length c.body
  size_parts =
      let l = envelope_length h c in
      let t = tail_length h c in
      omega (arith, l, t)

  -- the envelope that is read
  abbrev pub envelope_back : Envelope
  envelope_back = envelope_with (length (envelope_bytes h c)) (cleared h) (strings_part h c warnings_start) body_start

  -- where the parts stand, in bytes that hold the envelope
  module _ (s : List ℕ) (there : Holds s 0 (envelope_bytes h c)) where
    tail_there : Holds s 9 (id_part h c.id ++ (warnings_part h c.text c.lens ++ c.body))
    unfolding envelope_bytes tail_bytes
    tail_there =
        subst (λ (k : ℕ). Holds s k (tail_bytes h c)) (zero-add (length (header_bytes h (length (tail_bytes h c)))) ∙ header_length_lem h (length (tail_bytes h c)))
        (holds_right s 0 (header_bytes h (length (tail_bytes h c))) (tail_bytes h c) there)

    rest_there : Holds s warnings_start (warnings_part h c.text c.lens ++ c.body)
    rest_there = holds_right s 9 (id_part h c.id) _ tail_there

    pub id_stands : Holds s 9 (id_part h c.id)
    id_stands = holds_left s 9 (id_part h c.id) _ tail_there

    pub warnings_stand : Holds s warnings_start (warnings_part h c.text c.lens)
    warnings_stand = holds_left s warnings_start (warnings_part h c.text c.lens) c.body rest_there

    pub body_stands : Holds s body_start c.body
    body_stands = holds_right s warnings_start (warnings_part h c.text c.lens) c.body rest_there

    -- they begin with it
    begins : envelope_bytes h c ++ drop (length (envelope_bytes h c)) s ≡ s
    begins = ap (λ (l : List ℕ). l ++ drop (length (envelope_bytes h c)) s) (sym there.is) ∙ take-append-drop (length (envelope_bytes h c)) s

module _ (h : Header) (c : Content) (fit : Fits h c) (stream : SFits w16 h.stream) where
  start_is : after_id (cleared h) ≡ warnings_start h c
  unfolding after_id
  start_is = ap (λ (t : Bool). 9 + cond t 16 0) (cleared_id h) ∙ ap (λ (k : ℕ). 9 + k) (sym (id_length_lem h c fit))

  -- the header says so, with any bytes behind
  module _ (q : List ℕ) where
    header_here : header_of (envelope_bytes h c ++ q) ≡ cleared h
    unfolding envelope_bytes
    header_here =
        ap header_of (append_assoc (header_bytes h (length (tail_bytes h c))) (tail_bytes h c) q)
        ∙ header_back h (length (tail_bytes h c)) (tail_bytes h c ++ q) fit.version fit.flags stream

    declared_here : declared (envelope_bytes h c ++ q) ≡ some (length (tail_bytes h c))
    unfolding envelope_bytes
    declared_here =
        ap declared (append_assoc (header_bytes h (length (tail_bytes h c))) (tail_bytes h c) q)
        ∙ declared_back h (length (tail_bytes h c)) (tail_bytes h c ++ q) (omega (arith, fit.body))

    size_here : size_of (envelope_bytes h c ++ q) ≡ whole (9 + length (tail_bytes h c))
    unfolding cleared
    size_here =
        let l : length (envelope_bytes h c ++ q) ≡ length (envelope_bytes h c) + length q = length-append (envelope_bytes h c) q in
        let k : length (envelope_bytes h c) ≡ 9 + length (tail_bytes h c) = envelope_length h c in
        size_is (envelope_bytes h c ++ q) (fits declared_here (omega arith) (ap (λ (x : Header). known_version x.version) header_here ∙ fit.version))

  -- its own bytes
  inside_back : inside (envelope_bytes h c) ≡ whole (envelope_back h c)
  unfolding inside cleared
  inside_back =
      let bs : List ℕ = envelope_bytes h c in
      let own : Holds bs 0 bs = record { room = omega (arith, zero-add (length bs)); is = take-length bs } in
      let l : length bs ≡ body_start h c + length c.body = size_parts h c in
      ap (within bs) (ap header_of (sym (append-nil bs)) ∙ header_here [])
      ∙ within_is bs (cleared h)
      (read fit.opcode (omega (arith, start_is))
      (ap (warnings_at bs (cleared h)) start_is ∙ warnings_back h c fit bs (warnings_start h c) (warnings_stand h c bs own)))

  envelope_back_lem : (q : List ℕ) → envelope (envelope_bytes h c ++ q) ≡ whole (envelope_back h c)
  envelope_back_lem q =
      envelope_is (envelope_bytes h c ++ q) (size_here q)
      ∙ ap inside (take_at (envelope_bytes h c) q (9 + length (tail_bytes h c)) (envelope_length h c))
      ∙ inside_back

-- ---- written, then read

pub written_back : (h : Header) (c : Content) → envelope_check h c ≡ fine → SFits w16 h.stream → (s : List ℕ) → Holds s 0 (envelope_bytes h c) → ReadBack s h c
unfolding id_in body_in warnings_in
written_back h c check stream s there =
    let fit : Fits h c = fields_fit h c check in
    let id : length (id_part h c.id) ≡ cond (has_id (cleared h)) 16 0 = id_length_lem h c fit ∙ ap (λ (t : Bool). cond t 16 0) (sym (cleared_id h)) in
    let body : length (envelope_bytes h c) - body_start h c ≡ length c.body =
    ap (λ (k : ℕ). k - body_start h c) (size_parts h c) ∙ add-sub_cancel_left (body_start h c) (length c.body)
    in
    record {
      e = envelope_back h c;
      reads = ap envelope (sym (begins h c s there)) ∙ envelope_back_lem h c fit stream (drop (length (envelope_bytes h c)) s);
      size = refl;
      header = refl;
      id = ap (λ (k : ℕ). bytes_in s (place 9 k)) (sym id) ∙ holds_bytes s 9 (id_part h c.id) (id_stands h c s there);
      warnings = texts_back h c fit s (warnings_start h c) (warnings_stand h c s there);
      body = ap (λ (k : ℕ). bytes_in s (place (body_start h c) k)) body ∙ holds_bytes s (body_start h c) c.body (body_stands h c s there);
    }

-- so what the writer accepted is read from the output that it left, and its answer is the size
pub written_reads : (h : Header) (c : Content) → SFits w16 h.stream → (out left : List ℕ) (n : ℕ)
    → Wrote (envelope_check h c) out 0 (envelope_bytes h c) (got tt n) left → (b : ReadBack left h c) × (n ≡ b.e.size)
written_reads h c stream out left n w =
    let a : Stands (envelope_check h c) 0 (envelope_bytes h c) left n = accepted (envelope_check h c) w in
    let b : ReadBack left h c = written_back h c a.nothing stream left a.holds in
    (b, a.end ∙ zero-add (length (envelope_bytes h c)) ∙ sym b.size)
