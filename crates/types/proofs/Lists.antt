-- Lists of strings, written then read and read then written. Assumes nothing.
use Prim.Native.Nat.{ℕ, zero, suc, ◌+◌, ◌-◌, ◌≤◌}
use mathlib.Core.Path.{◌≡◌, refl, sym, ap, ap₂, ◌∙◌, subst}
use mathlib.Core.Bool.{Bool, true, ◌&&◌}
use mathlib.Core.List.{List, [], ◌∷◌, ◌++◌}
use native.Mathlib.Omega.{arith}
use native.Mathlib.Nat.{add_assoc, add-zero, add-sub_cancel_left}
use lib.ListN.{length, take, drop, length-append, length-drop, take-append-drop}
use lib.Seq.{take_at, drop_at, length-take-le}
use borrow.Author.Tests.{le-leb, eqb-true}
use Rattle.basis.specs.Bytes.{Bytes}
use Rattle.refusal.specs.Refusal.{not_utf8, not_writable}
use Rattle.types.specs.Answer.{got, and_then}
use Rattle.types.specs.Number.{digits}
use Rattle.utf8.specs.Utf8.{utf8}
use Rattle.types.specs.Read.{Place, place, strings, short_at, string_at, strings_at, listed, string_list_at, bytes_in, texts_in}
use Rattle.types.specs.Write.{fine, demand, counted, text_check, max_short, cut_by, joined, lengths_of, lengths_fit, all_utf8, strings_bytes, list_bytes, list_check}
use Rattle.types.proofs.BigEndian.{length_digits}
use Rattle.types.proofs.Put.{demanded}
use Rattle.types.proofs.Reading.{then_got}
use Rattle.types.proofs.Found.{behind, got_value, got_next, number_found, list_found}
use Rattle.types.specs.ThereAndBack.{Holds, Stands}
use Rattle.types.proofs.Holds.{holds_left, holds_right, holds_join}
use Rattle.types.proofs.Cut.{both_true, Next, next_of, fit_goes_on, fit_none, length_cut, Writes, writes, list_apart}
use Rattle.types.proofs.WrittenRead.{ReadsBack, TextFits, text_fits, string_back, short_back, content_back}
use Rattle.types.proofs.ReadWritten.{string_forth, short_forth, short_small}

-- each text may be written as a string
abbrev pub AllFit : List (List ℕ) → Type 0
AllFit [] = Unit {0}
AllFit (t ∷ ts) = (text_check max_short t ≡ fine) × AllFit ts

fits_check : (t : List ℕ) → length t ≤ max_short → utf8 t ≡ true → text_check max_short t ≡ fine
fits_check t h u = demanded not_writable (demand (utf8 t) not_utf8 fine) (le-leb (length t) max_short h) ∙ demanded not_utf8 fine u

-- ---- written, then read

-- where the texts of some strings stand that begin at a position
unfoldable pub places_from : ℕ → List (List ℕ) → List Place
places_from at [] = []
places_from at (t ∷ ts) = place (at + 2) (length t) ∷ places_from (at + length (counted 2 t)) ts

pub strings_back : (ts : List (List ℕ)) → AllFit ts → (s : List ℕ) (at : ℕ) → Holds s at (strings_bytes ts)
    → (strings_at s (length ts) at ≡ got (places_from at ts) (at + length (strings_bytes ts))) × (texts_in s (places_from at ts) ≡ ts)
unfolding strings_at strings_bytes places_from texts_in
strings_back [] f s at h = (ap (got []) (sym (add-zero at)), refl)
strings_back (t ∷ ts) f s at h =
    let first : Holds s at (counted 2 t) = holds_left s at (counted 2 t) (strings_bytes ts) h in
    let mid : ℕ = at + length (counted 2 t) in
    let rest = strings_back ts f.1 s mid (holds_right s at (counted 2 t) (strings_bytes ts) h) in
    let end : mid + length (strings_bytes ts) ≡ at + length (counted 2 t ++ strings_bytes ts) =
    add_assoc at (length (counted 2 t)) (length (strings_bytes ts)) ∙ ap (λ (k : ℕ). at + k) (sym (length-append (counted 2 t) (strings_bytes ts)))
    in (
      then_got (λ p next. and_then (strings_at s (length ts) next) (λ ps end. got (p ∷ ps) end)) (string_back t f.0 s at first)
          ∙ then_got (λ ps end. got (place (at + 2) (length t) ∷ ps) end) rest.0
          ∙ ap (got (place (at + 2) (length t) ∷ places_from mid ts)) end,
      ap₂ (λ (x : List ℕ) (xs : List (List ℕ)). x ∷ xs) (content_back 2 t s at first) rest.1,
    )

-- the pieces of a text whose lengths fit and which are UTF-8 may be written
pub pieces_fit : (t ns : List ℕ) → lengths_fit (length t) ns ≡ true → all_utf8 (cut_by t ns) ≡ true → AllFit (cut_by t ns)
unfolding cut_by all_utf8
pieces_fit t [] f u = tt
pieces_fit t (n ∷ ns) f u =
    let nx : Next (length t) n ns = next_of (length t) n ns f in
    let both = both_true (utf8 (take n t)) (all_utf8 (cut_by (drop n t) ns)) u in
    let long : length (take n t) ≡ n = length-take-le n t nx.within in (
      fits_check (take n t) (subst (λ (k : ℕ). k ≤ max_short) (sym long) nx.small) both.0,
      pieces_fit (drop n t) ns (ap (λ (k : ℕ). lengths_fit k ns) (length-drop n t) ∙ nx.fits) both.1,
    )

module _ (t ns : List ℕ) (c : list_check t ns ≡ fine) (s : List ℕ) (at : ℕ) (h : Holds s at (list_bytes (cut_by t ns))) where
  -- the strings of a list that stands somewhere, and their texts
  pub list_texts :
      (strings_at s (length ns) (at + 2) ≡ got (places_from (at + 2) (cut_by t ns)) (at + length (list_bytes (cut_by t ns))))
      × (texts_in s (places_from (at + 2) (cut_by t ns)) ≡ cut_by t ns)
  unfolding list_bytes
  list_texts =
      let w : Writes t ns = writes t ns c in
      let ts : List (List ℕ) = cut_by t ns in
      let there : Holds s (at + 2) (strings_bytes ts) =
      subst (λ (k : ℕ). Holds s (at + k) (strings_bytes ts)) (length_digits 2 (length ts)) (holds_right s at (digits 2 (length ts)) (strings_bytes ts) h)
      in
      let all = strings_back ts (pieces_fit t ns w.lengths w.texts) s (at + 2) there in (
        ap (λ (n : ℕ). strings_at s n (at + 2)) (sym (length_cut t ns))
            ∙ all.0
            ∙ ap (got (places_from (at + 2) ts)) (add_assoc at 2 (length (strings_bytes ts)) ∙ ap (λ (k : ℕ). at + k) (sym (list_apart ts))),
        all.1,
      )

  list_count : short_at s at ≡ got (length ns) (at + 2)
  unfolding list_bytes
  list_count =
      let w : Writes t ns = writes t ns c in
      let there : Holds s at (digits 2 (length ns)) =
      subst (λ (n : ℕ). Holds s at (digits 2 n)) (length_cut t ns) (holds_left s at (digits 2 (length (cut_by t ns))) (strings_bytes (cut_by t ns)) h)
      in
      short_back (length ns) (omega (arith, w.count)) s at there ∙ ap (λ (k : ℕ). got (length ns) (at + k)) (length_digits 2 (length ns))

pub list_back : (t ns : List ℕ) → list_check t ns ≡ fine → ReadsBack string_list_at (list_bytes (cut_by t ns)) (λ at. strings (length ns) (at + 2))
unfolding string_list_at listed
list_back t ns c s at h =
    then_got (listed s) (list_count t ns c s at h) ∙ then_got (λ ps next. got (strings (length ns) (at + 2)) next) (list_texts t ns c s at h).0

-- the pieces of a text, joined, are the text, and their lengths are those that cut it
pub pieces_joined : (t ns : List ℕ) → lengths_fit (length t) ns ≡ true → (joined (cut_by t ns) ≡ t) × (lengths_of (cut_by t ns) ≡ ns)
unfolding cut_by joined lengths_of
pieces_joined [] [] f = (refl, refl)
pieces_joined (x ∷ t) [] f = let z : suc (length t) ≡ 0 = eqb-true (suc (length t)) 0 (sym (fit_none (suc (length t))) ∙ f) in let n : ⊥ = omega arith in absurd n
pieces_joined t (n ∷ ns) f =
    let nx : Next (length t) n ns = next_of (length t) n ns f in
    let rest = pieces_joined (drop n t) ns (ap (λ (k : ℕ). lengths_fit k ns) (length-drop n t) ∙ nx.fits) in (
      ap (λ (l : List ℕ). take n t ++ l) rest.0 ∙ take-append-drop n t,
      ap₂ (λ (k : ℕ) (l : List ℕ). k ∷ l) (length-take-le n t nx.within) rest.1,
    )

-- ---- read, then written

-- texts are the pieces of their joining
pub cut_joined : (ts : List (List ℕ)) → cut_by (joined ts) (lengths_of ts) ≡ ts
unfolding cut_by joined lengths_of
cut_joined [] = refl
cut_joined (t ∷ ts) =
    ap₂ (λ (x y : List ℕ). x ∷ cut_by y (lengths_of ts)) (take_at t (joined ts) (length t) refl) (drop_at t (joined ts) (length t) refl)
    ∙ ap (λ (xs : List (List ℕ)). t ∷ xs) (cut_joined ts)

pub length_lengths : (ts : List (List ℕ)) → length (lengths_of ts) ≡ length ts
unfolding lengths_of
length_lengths [] = refl
length_lengths (t ∷ ts) = ap suc (length_lengths ts)

pub joined_fit : (ts : List (List ℕ)) → AllFit ts → lengths_fit (length (joined ts)) (lengths_of ts) ≡ true
unfolding joined lengths_of
joined_fit [] f = fit_none 0
joined_fit (t ∷ ts) f =
    let h : TextFits max_short t = text_fits max_short t f.0 in
    let l : length (t ++ joined ts) ≡ length t + length (joined ts) = length-append t (joined ts) in
    fit_goes_on (length (t ++ joined ts)) (length t) (lengths_of ts) h.short (omega arith)
    ∙ ap (λ (k : ℕ). lengths_fit k (lengths_of ts)) (ap (λ (k : ℕ). k - length t) l ∙ add-sub_cancel_left (length t) (length (joined ts)))
    ∙ joined_fit ts f.1

pub all_utf8_lem : (ts : List (List ℕ)) → AllFit ts → all_utf8 ts ≡ true
unfolding all_utf8
all_utf8_lem [] f = refl
all_utf8_lem (t ∷ ts) f =
    let h : TextFits max_short t = text_fits max_short t f.0 in
    ap (λ (b : Bool). b && all_utf8 ts) h.text ∙ all_utf8_lem ts f.1

-- so they may be written as a list, if they are not too many
pub joined_check : (ts : List (List ℕ)) → AllFit ts → length ts ≤ max_short → list_check (joined ts) (lengths_of ts) ≡ fine
unfolding list_check
joined_check ts f h =
    demanded not_writable _ (le-leb (length (lengths_of ts)) max_short (subst (λ (k : ℕ). k ≤ max_short) (sym (length_lengths ts)) h))
    ∙ demanded not_writable _ (joined_fit ts f)
    ∙ demanded not_utf8 fine (ap all_utf8 (cut_joined ts) ∙ all_utf8_lem ts f)

-- n strings that were read: their texts may be written, and stand where they were read
pub record Read (s : List ℕ) (n at : ℕ) (ps : List Place) (end : ℕ) : Type 0 where
  pub many : length (texts_in s ps) ≡ n
  pub fit : AllFit (texts_in s ps)
  pub holds : Holds s at (strings_bytes (texts_in s ps))
  pub ends : end ≡ at + length (strings_bytes (texts_in s ps))

pub strings_forth : (s : List ℕ) → Bytes s → (n at : ℕ) → at ≤ length s → {ps : List Place} {end : ℕ} → strings_at s n at ≡ got ps end → Read s n at ps end
unfolding strings_at strings_bytes texts_in
strings_forth s b zero at r {ps} {end} e =
    subst (λ (qs : List Place). Read s zero at qs end) (got_value e)
    (record { many = refl; fit = tt; holds = record { room = omega arith; is = refl }; ends = sym (got_next e) ∙ sym (add-zero at) })
strings_forth s b (suc n) at r {ps} {end} e =
    let h = behind (string_at s at) (λ p next. and_then (strings_at s n next) (λ ps end. got (p ∷ ps) end)) e in
    let k = behind (strings_at s n h.next) (λ ps end. got (h.value ∷ ps) end) h.then in
    let st = string_forth s b at h.first in
    let t : List ℕ = bytes_in s h.value in
    let room : at + length (counted 2 t) ≤ length s = st.holds.room in
    let i : Read s n h.next k.value k.next = strings_forth s b n h.next (omega (arith, st.end)) k.first in
    let rest : List ℕ = strings_bytes (texts_in s k.value) in
    subst (λ (qs : List Place). Read s (suc n) at qs end) (got_value k.then)
    (record {
      many = ap suc i.many;
      fit = (st.nothing, i.fit);
      holds = holds_join s at (counted 2 t) rest st.holds (subst (λ (j : ℕ). Holds s j rest) st.end i.holds);
      ends =
          sym (got_next k.then)
          ∙ i.ends
          ∙ ap (λ (j : ℕ). j + length rest) st.end
          ∙ add_assoc at (length (counted 2 t)) (length rest)
          ∙ ap (λ (j : ℕ). at + j) (sym (length-append (counted 2 t) rest));
    })

-- a list that was read: where its texts stand, and that they may be written and stand there
pub record ListRead (s : List ℕ) (at n start end : ℕ) : Type 0 where
  pub begins : start ≡ at + 2
  pub places : List Place
  pub met : strings_at s n start ≡ got places end
  pub many : length (texts_in s places) ≡ n
  pub stands : Stands (list_check (joined (texts_in s places)) (lengths_of (texts_in s places))) at (list_bytes (texts_in s places)) s end

pub list_forth : (s : List ℕ) → Bytes s → (at : ℕ) {n start end : ℕ} → string_list_at s at ≡ got (strings n start) end → ListRead s at n start end
unfolding list_bytes
list_forth s b at {n} {start} {end} e =
    let h = list_found s at e in
    let st = short_forth s b at h.0 in
    let c = number_found 2 s at h.0 in
    let ts : List (List ℕ) = texts_in s h.1 in
    let i : Read s n start h.1 end = strings_forth s b n start (omega (arith, c.ends, c.room)) h.2 in
    let small : length ts ≤ max_short = subst (λ (m : ℕ). m ≤ max_short) (sym i.many) (short_small s b at c) in
    record {
      begins = c.ends;
      places = h.1;
      met = h.2;
      many = i.many;
      stands = record {
        nothing = joined_check ts i.fit small;
        holds =
            holds_join s at (digits 2 (length ts)) (strings_bytes ts) (subst (λ (m : ℕ). Holds s at (digits 2 m)) (sym i.many) st.holds)
            (subst (λ (j : ℕ). Holds s j (strings_bytes ts)) (c.ends ∙ ap (λ (j : ℕ). at + j) (sym (length_digits 2 (length ts)))) i.holds);
        end =
            i.ends
            ∙ ap (λ (j : ℕ). j + length (strings_bytes ts)) c.ends
            ∙ add_assoc at 2 (length (strings_bytes ts))
            ∙ ap (λ (j : ℕ). at + j) (sym (list_apart ts));
      };
    }
