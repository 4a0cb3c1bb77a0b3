-- An envelope that was read may be written, and its bytes are those that were read, under the premises of docs/RULES.md, 11.2. Assumes nothing.
use Prim.Native.Nat.{ℕ, ◌+◌, ◌*◌, ◌-◌, ◌/◌, ◌%◌, ◌≤◌, ◌<◌}
use mathlib.Core.Path.{◌≡◌, refl, sym, ap, ap₂, ◌∙◌, subst}
use mathlib.Core.Bool.{Bool, true, false, cond, ◌&&◌}
use mathlib.Core.List.{List, [], ◌∷◌, ◌++◌}
use mathlib.Core.Option.{some}
use native.Mathlib.Nat.{add-zero, zero-add}
use native.Mathlib.Omega.{arith}
use borrow.Author.Tests.{le-leb, leb-true, leb-false}
use lib.Dec.{leb, eqb}
use lib.ListN.{length, take, drop, get_or}
use lib.Seq.{take-add, drop-drop, drop-cons, length-take-le}
use mir.Syntax.{w16}
use mir.Val.{of_z}
use mir.ValLaws.{of_z-to_z}
use Rattle.basis.specs.Bytes.{Bytes}
use Rattle.refusal.specs.Refusal.{output_too_short, not_writable}
use Rattle.types.specs.Answer.{Answer, got, refused}
use Rattle.types.specs.Number.{be, part, digits}
use Rattle.types.specs.Read.{place, Strings, bytes_in, strings_at, texts_in, texts_of}
use Rattle.types.specs.Write.{Check, fine, joined, lengths_of, list_bytes, list_check, put, written, output, Wrote}
use Rattle.types.proofs.BigEndian.{digits_be, be_below, length_part, bytes_part}
use Rattle.types.proofs.Put.{demanded}
use Rattle.types.proofs.Found.{some_counted, got_next}
use Rattle.types.specs.ThereAndBack.{Holds, Stands}
use Rattle.types.proofs.Holds.{holds_part, holds_join, holds_put}
use Rattle.types.proofs.Lists.{ListRead, list_forth, cut_joined}
use Rattle.types.proofs.Reading.{bytes_there}
use Rattle.frame.specs.Header.{Header, header_of, flag, has_id, has_warnings}
use Rattle.basis.specs.Front.{whole}
use Rattle.frame.specs.Envelope.{declared, Envelope, id_place, after_id, warnings_at, envelope, id_in, body_in, warnings_in}
use Rattle.frame.specs.Write.{Content, content, id_part, warnings_part, tail_bytes, header_bytes, envelope_bytes, max_body, max_flags, id_fits, warning_fits, flags_fit, head_fits, warnings_check, envelope_check}
use Rattle.frame.specs.ThereAndBack.{Premises, content_of, WrittenAgain}
use Rattle.frame.proofs.Bounds.{within_bytes}
use Rattle.frame.proofs.Cases.{warnings_are}
use Rattle.frame.proofs.Checked.{id_is, list_is, check_is, tail_length}
use Rattle.frame.proofs.Ends.{warnings_end}
use Rattle.frame.proofs.Found.{Found, found, warnings_here}
use Rattle.frame.proofs.Laid.{header_length_lem, envelope_length}

-- ---- the header

-- nine bytes, as a header has them
nine_apart : (s : List ℕ) → 9 ≤ length s → take 9 s ≡ get_or s 0 0 ∷ get_or s 1 0 ∷ (part s 2 2 ++ (get_or s 4 0 ∷ part s 5 4))
nine_apart s l =
    ap (take 9) (drop-cons s 0 0 (omega arith))
    ∙ ap (λ (x : List ℕ). get_or s 0 0 ∷ take 8 x) (drop-cons s 1 0 (omega arith))
    ∙ ap (λ (x : List ℕ). get_or s 0 0 ∷ get_or s 1 0 ∷ x)
    (take-add 2 5 (drop 2 s)
    ∙ ap (λ (x : List ℕ). part s 2 2 ++ take 5 x) (drop-drop 2 2 s ∙ drop-cons s 4 0 (omega arith)))

module _ (s : List ℕ) (b : Bytes s) (nine : 9 ≤ length s) (even : get_or s 1 0 % 2 ≡ 0) (low : get_or s 1 0 < 32) where
  first_forth : (header_of s).version + cond (header_of s).response 128 0 ≡ get_or s 0 0
  unfolding header_of
  first_forth = go (leb 128 (get_or s 0 0)) refl
    where
      go : (t : Bool) → leb 128 (get_or s 0 0) ≡ t → get_or s 0 0 % 128 + cond t 128 0 ≡ get_or s 0 0
      go true e = omega (arith, b 0, leb-true 128 (get_or s 0 0) e)
      go false e = omega (arith, leb-false 128 (get_or s 0 0) e)

  digits_forth : (at n : ℕ) → at + n ≤ 9 → digits n (be (part s at n)) ≡ part s at n
  digits_forth at n h = digits_be n (part s at n) (length_part s at n (omega arith)) (bytes_part s at n b)

  stream_forth : digits 2 (of_z w16 (header_of s).stream) ≡ part s 2 2
  unfolding header_of
  stream_forth =
      ap (digits 2) (of_z-to_z w16 (be (part s 2 2)) (record { fits = be_below 2 (part s 2 2) (length_part s 2 2 (omega arith)) (bytes_part s 2 2 b) }))
      ∙ digits_forth 2 2 (omega arith)

  length_forth : (n : ℕ) → declared s ≡ some n → digits 4 n ≡ part s 5 4
  unfolding declared
  length_forth n e = ap (digits 4) (some_counted (be (part s 5 4)) n (sym e)).value ∙ digits_forth 5 4 (omega arith)

  header_forth : (n : ℕ) → declared s ≡ some n → header_bytes (header_of s) n ≡ take 9 s
  unfolding header_bytes header_of
  header_forth n e =
      let f : get_or s 1 0 % 32 / 2 * 2 ≡ get_or s 1 0 = omega arith in
      ap₂ (λ (x y : ℕ). x ∷ y ∷ (digits 2 (of_z w16 (header_of s).stream) ++ (get_or s 4 0 ∷ digits 4 n))) first_forth f
      ∙ ap₂ (λ (x y : List ℕ). get_or s 0 0 ∷ get_or s 1 0 ∷ (x ++ (get_or s 4 0 ∷ y))) stream_forth (length_forth n e)
      ∙ sym (nine_apart s nine)

-- ---- the parts

-- the bytes of a place that lies within
place_bytes : (s : List ℕ) (at n : ℕ) → at + n ≤ length s → (length (bytes_in s (place at n)) ≡ n) × Holds s at (bytes_in s (place at n))
place_bytes s at n h =
    let e : bytes_in s (place at n) ≡ part s at n = bytes_there n s at (le-leb (at + n) (length s) h) in
    (ap length e ∙ length_part s at n h, subst (λ (l : List ℕ). Holds s at l) (sym e) (holds_part s at n h))

none_there : (s : List ℕ) (at : ℕ) → at ≤ length s → Holds s at []
none_there s at h = record { room = omega (arith, add-zero at); is = refl }

-- a tracing id
module _ (s : List ℕ) (h : Header) (room : after_id h ≤ length s) where
  record Ided : Type 0 where
    same : id_part h (bytes_in s (id_place (has_id h))) ≡ bytes_in s (id_place (has_id h))
    holds : Holds s 9 (bytes_in s (id_place (has_id h)))
    start : 9 + length (bytes_in s (id_place (has_id h))) ≡ after_id h
    fits : id_fits h (length (bytes_in s (id_place (has_id h)))) ≡ true

  id_long : length (bytes_in s (id_place (has_id h))) ≡ cond (has_id h) 16 0
  unfolding after_id
  id_long = (place_bytes s 9 (cond (has_id h) 16 0) room).0

  id_forth : Ided
  unfolding after_id
  id_forth =
      record {
        same = same (has_id h) refl;
        holds = (place_bytes s 9 (cond (has_id h) 16 0) room).1;
        start = ap (λ (k : ℕ). 9 + k) id_long;
        fits = ap (id_fits h) id_long ∙ fits (has_id h);
      }
    where
      nothing : (l : List ℕ) → length l ≡ 0 → l ≡ []
      nothing [] e = refl
      nothing (x ∷ l) e = let f : ⊥ = omega arith in absurd f

      same : (t : Bool) → has_id h ≡ t → id_part h (bytes_in s (id_place (has_id h))) ≡ bytes_in s (id_place (has_id h))
      same true e = id_is h _ e
      same false e = id_is h _ e ∙ sym (nothing _ (id_long ∙ ap (λ (t : Bool). cond t 16 0) e))

      fits : (t : Bool) → cond t (eqb (cond t 16 0) 16) true ≡ true
      fits true = refl
      fits false = refl

-- warnings, with the texts that they were read as
module _ (s : List ℕ) (b : Bytes s) (h : Header) (at : ℕ) (room : at ≤ length s) {ws : Strings} {next : ℕ} (e : warnings_at s h at ≡ got ws next) where
  abbrev texts : List (List ℕ)
  texts = texts_of s (strings_at s ws.left ws.at)

  record Warned : Type 0 where
    holds : Holds s at (warnings_part h (joined texts) (lengths_of texts))
    end : next ≡ at + length (warnings_part h (joined texts) (lengths_of texts))
    fits : warnings_check h (joined texts) (lengths_of texts) ≡ fine

  warnings_forth : Warned
  warnings_forth = go (has_warnings h) refl
    where
      go : (t : Bool) → has_warnings h ≡ t → Warned
      go true w =
          let r : ListRead s at ws.left ws.at next = list_forth s b at (sym (warnings_are s h at w) ∙ e) in
          let same : texts ≡ texts_in s r.places = ap (texts_of s) r.met in
          let st : Stands (list_check (joined texts) (lengths_of texts)) at (list_bytes texts) s next =
          subst (λ (ts : List (List ℕ)). Stands (list_check (joined ts) (lengths_of ts)) at (list_bytes ts) s next) (sym same) r.stands
          in
          let is : warnings_part h (joined texts) (lengths_of texts) ≡ list_bytes texts =
          list_is h (joined texts) (lengths_of texts) w ∙ ap list_bytes (cut_joined texts)
          in
          record {
            holds = subst (λ (l : List ℕ). Holds s at l) (sym is) st.holds;
            end = st.end ∙ ap (λ (l : List ℕ). at + length l) (sym is);
            fits = check_is h (joined texts) (lengths_of texts) w ∙ st.nothing;
          }
      go false w =
          let is : warnings_part h (joined texts) (lengths_of texts) ≡ [] = list_is h (joined texts) (lengths_of texts) w in
          record {
            holds = subst (λ (l : List ℕ). Holds s at l) (sym is) (none_there s at room);
            end = sym (got_next (sym (warnings_are s h at w) ∙ e)) ∙ sym (ap (λ (l : List ℕ). at + length l) is ∙ add-zero at);
            fits = check_is h (joined texts) (lengths_of texts) w;
          }

-- ---- the whole

module _ (s : List ℕ) (b : Bytes s) {e : Envelope} (q : envelope s ≡ whole e) where
  met : Found s e
  met = found s q

  abbrev h : Header
  h = header_of s

  abbrev n : ℕ
  n = e.size

  nine : 9 ≤ n
  nine = omega (arith, met.sized.is)

  room : n ≤ length s
  room = omega (arith, met.sized.is, met.sized.room)

  id_room : after_id h ≤ length s
  id_room = omega (arith, met.id, room)

  end_room : met.next ≤ n
  end_room =
      let l : length (take n s) ≡ n = length-take-le n s room in
      subst (λ (k : ℕ). met.next ≤ k) l (warnings_end (take n s) h (after_id h) (subst (λ (k : ℕ). after_id h ≤ k) (sym l) met.id) met.warnings)

  abbrev texts_here : List (List ℕ)
  texts_here = texts_of s (strings_at s e.warnings.left e.warnings.at)

  abbrev id_here : List ℕ
  id_here = bytes_in s (id_place (has_id h))

  abbrev body_here : List ℕ
  body_here = bytes_in s (place met.next (n - met.next))

  abbrev given : Content
  given = content id_here (joined texts_here) (lengths_of texts_here) body_here

  ided : Ided s h id_room
  ided = id_forth s h id_room

  warned : Warned s b h (after_id h) id_room (warnings_here s met)
  warned = warnings_forth s b h (after_id h) id_room (warnings_here s met)

  bodied : (length body_here ≡ n - met.next) × Holds s met.next body_here
  bodied = place_bytes s met.next (n - met.next) (omega (arith, end_room, room))

  id_ends : 9 + length (id_part h id_here) ≡ after_id h
  id_ends = ap (λ (l : List ℕ). 9 + length l) ided.same ∙ ided.start

  tail_is : 9 + length (tail_bytes h given) ≡ n
  tail_is = omega (arith, tail_length h given, id_ends, warned.end, bodied.0, end_room)

  tail_holds : Holds s 9 (tail_bytes h given)
  unfolding tail_bytes
  tail_holds =
      let W : List ℕ = warnings_part h (joined texts_here) (lengths_of texts_here) in
      let rest : Holds s (after_id h) (W ++ body_here) =
      holds_join s (after_id h) W body_here warned.holds (subst (λ (k : ℕ). Holds s k body_here) warned.end bodied.1)
      in
      holds_join s 9 (id_part h id_here) (W ++ body_here) (subst (λ (l : List ℕ). Holds s 9 l) (sym ided.same) ided.holds)
      (subst (λ (k : ℕ). Holds s k (W ++ body_here)) (sym id_ends) rest)

  module _ (p : Premises s e) where
    declared_is : declared s ≡ some (length (tail_bytes h given))
    declared_is =
        let m : met.sized.body ≡ length (tail_bytes h given) = omega (arith, met.sized.is, tail_is) in
        met.sized.declares ∙ ap some m

    header_is : header_bytes h (length (tail_bytes h given)) ≡ take 9 s
    header_is = header_forth s b (omega (arith, nine, room)) p.even p.low (length (tail_bytes h given)) declared_is

    all_holds : Holds s 0 (envelope_bytes h given)
    unfolding envelope_bytes
    all_holds =
        let H : List ℕ = header_bytes h (length (tail_bytes h given)) in
        let there : Holds s 0 H = subst (λ (l : List ℕ). Holds s 0 l) (sym header_is) (holds_part s 0 9 (omega (arith, nine, room))) in
        let at : 0 + length H ≡ 9 = zero-add (length H) ∙ header_length_lem h (length (tail_bytes h given)) in
        holds_join s 0 H (tail_bytes h given) there (subst (λ (k : ℕ). Holds s k (tail_bytes h given)) (sym at) tail_holds)

    bytes_forth : envelope_bytes h given ≡ take n s
    bytes_forth = sym all_holds.is ∙ ap (λ (k : ℕ). take k s) (envelope_length h given ∙ tail_is)

    flags_low : (header_of s).flags ≤ max_flags
    unfolding header_of
    flags_low = omega arith

    flag_kept : flag 8 (header_of s).flags ≡ flag 8 (get_or s 1 0)
    unfolding header_of
    flag_kept = let k : get_or s 1 0 % 32 / 8 % 2 ≡ get_or s 1 0 / 8 % 2 = omega arith in ap (λ (x : ℕ). eqb x 1) k

    warning_forth : warning_fits h ≡ true
    warning_forth = go (flag 8 h.flags) refl
      where
        go : (t : Bool) → flag 8 h.flags ≡ t → cond (flag 8 h.flags) h.response true ≡ true
        go true w =
            ap (λ (t : Bool). cond t h.response true) w ∙ sym (ap (λ (x : Envelope). x.header.response) met.is) ∙ p.response (sym flag_kept ∙ w)
        go false w = ap (λ (t : Bool). cond t h.response true) w

    check_forth : envelope_check h given ≡ fine
    unfolding envelope_check head_fits flags_fit
    check_forth =
        demanded not_writable _
        (ap₂ (λ (t u : Bool). t && (u && flags_fit h (length id_here))) met.sized.version met.opcode
        ∙ ap₂ (λ (t u : Bool). t && (u && warning_fits h)) (le-leb h.flags max_flags flags_low) ided.fits
        ∙ warning_forth)
        ∙ demanded not_writable _ (le-leb (length (tail_bytes h given)) max_body (omega (arith, tail_is, p.small)))
        ∙ warned.fits

-- ---- read, then written

pub read_forth : (s : List ℕ) → Bytes s → {e : Envelope} → envelope s ≡ whole e → Premises s e → WrittenAgain s e
unfolding content_of id_in body_in warnings_in
read_forth s b {e} q p =
    subst (λ (x : Envelope). WrittenAgain s x) (sym (met s b q).is) (record { check = check_forth s b q p; bytes = bytes_forth s b q p })

-- so the writer, where there is room, leaves the bytes that were read
pub read_writes : (s : List ℕ) → Bytes s → {e : Envelope} → envelope s ≡ whole e → Premises s e
    → (out : List ℕ) → e.size ≤ length out → {answer : Answer Unit} {left : List ℕ}
    → Wrote (envelope_check e.header (content_of s e)) out 0 (envelope_bytes e.header (content_of s e)) answer left
    → (answer ≡ got tt e.size) × (take e.size left ≡ take e.size s)
read_writes s b {e} q p out room w =
    let a : WrittenAgain s e = read_forth s b q p in
    let bs : List ℕ = envelope_bytes e.header (content_of s e) in
    let l : length bs ≡ e.size = ap length a.bytes ∙ length-take-le e.size s (within_bytes s q) in
    let k : 0 + length bs ≤ length out = omega (arith, zero-add (length bs)) in
    let t : leb (0 + length bs) (length out) ≡ true = le-leb (0 + length bs) (length out) k in
    let here : Holds (put out 0 bs) 0 bs = holds_put out 0 bs k in (
      w.says
          ∙ ap (λ (x : Check). written x out 0 bs) a.check
          ∙ ap (λ (x : Bool). cond x (got (tt {0}) (0 + length bs)) (refused output_too_short)) t
          ∙ ap (got (tt {0})) (zero-add (length bs) ∙ l),
      ap (take e.size) (w.leaves ∙ ap (λ (x : Check). output x out 0 bs) a.check ∙ ap (λ (x : Bool). cond x (put out 0 bs) out) t)
          ∙ ap (λ (m : ℕ). take m (put out 0 bs)) (sym l)
          ∙ here.is
          ∙ a.bytes,
    )
