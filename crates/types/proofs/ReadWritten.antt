-- Read, then written, for each notation: what was read may be written, and its bytes are those that were read. Assumes nothing.
use Prim.Native.Nat.{ℕ, ◌+◌, ◌^◌, ◌≤◌, ◌<◌}
use mathlib.Core.Path.{◌≡◌, refl, sym, ap, ap₂, ◌∙◌, subst}
use mathlib.Core.Bool.{true}
use mathlib.Core.List.{List}
use mathlib.Core.Option.{Option, none, some}
use native.Mathlib.Omega.{arith}
use native.Mathlib.Nat.{add_assoc}
use lib.IntN.{ℤ, pos, negsuc}
use lib.ListN.{length}
use mir.Syntax.{Width, w32, w64}
use mir.Val.{to_z, of_z, Fits}
use mir.ValLaws.{of_z-to_z}
use borrow.Author.Tests.{le-leb}
use Rattle.basis.specs.Bytes.{Bytes}
use Rattle.refusal.specs.Refusal.{not_utf8, not_writable}
use Rattle.types.specs.Answer.{got}
use Rattle.types.specs.Number.{be, part, digits}
use Rattle.utf8.specs.Utf8.{utf8}
use Rattle.types.specs.Read.{Place, place, number_at, signed_at, short_at, int_at, long_at, run_at, text_at, uuid_at, natural, count_at, long_text, nullable_run, short_bytes_at, string_at, long_string_at, bytes_at, bytes_in}
use Rattle.types.specs.Write.{Check, fine, demand, counted, count_check, text_check, bytes_bytes, bytes_check, max_short, max_int}
use Rattle.types.proofs.BigEndian.{length_digits, digits_be, be_below, length_part, bytes_part}
use Rattle.types.proofs.Put.{length_counted, demanded}
use Rattle.types.proofs.Reading.{bytes_there, then_got}
use Rattle.types.specs.ThereAndBack.{Holds, Stands}
use Rattle.types.proofs.Holds.{holds_part, holds_join}
use Rattle.types.proofs.Found.{behind, got_value, got_next, got_refused, Found, number_found, signed_found, run_found, text_found, count_found, Counted, some_counted}

-- ---- numbers, over the number of bytes and the width

module _ (s : List ℕ) (b : Bytes s) (at n : ℕ) where
  -- n bytes that are there stand as the bytes of their number
  digits_stand : at + n ≤ length s → {x end : ℕ} → x ≡ be (part s at n) → end ≡ at + n → Stands fine at (digits n x) s end
  digits_stand r {x} {end} e f =
      let same : digits n x ≡ part s at n = ap (digits n) e ∙ digits_be n (part s at n) (length_part s at n r) (bytes_part s at n b) in
      record {
        nothing = refl;
        holds = subst (λ (l : List ℕ). Holds s at l) (sym same) (holds_part s at n r);
        end = f ∙ ap (λ (k : ℕ). at + k) (sym (length_digits n x));
      }

  pub number_forth : {x end : ℕ} → number_at n s at ≡ got x end → Stands fine at (digits n x) s end
  number_forth e =
      let f = number_found n s at e in
      digits_stand f.room f.value f.ends

  pub signed_forth : (w : Width) → (be (part s at n) < 256 ^ n → Fits w (be (part s at n))) → {z : ℤ} {end : ℕ} → signed_at w n s at ≡ got z end → Stands fine at (digits n (of_z w z)) s end
  signed_forth w fits e =
      let f = signed_found n s at w e in
      let below : be (part s at n) < 256 ^ n = be_below n (part s at n) (length_part s at n f.room) (bytes_part s at n b) in
      digits_stand f.room (ap (of_z w) f.value ∙ of_z-to_z w (be (part s at n)) (fits below)) f.ends

module _ (s : List ℕ) (b : Bytes s) (at : ℕ) where
  pub short_forth : {x end : ℕ} → short_at s at ≡ got x end → Stands fine at (digits 2 x) s end
  short_forth = number_forth s b at 2

  pub int_forth : {z : ℤ} {end : ℕ} → int_at s at ≡ got z end → Stands fine at (digits 4 (of_z w32 z)) s end
  int_forth = signed_forth s b at 4 w32 (λ h. record { fits = h })

  pub long_forth : {z : ℤ} {end : ℕ} → long_at s at ≡ got z end → Stands fine at (digits 8 (of_z w64 z)) s end
  long_forth = signed_forth s b at 8 w64 (λ h. record { fits = h })

-- ---- bytes and texts

-- the bytes of a place that was found
found_bytes : {s : List ℕ} {at n : ℕ} {p : Place} {end : ℕ} → Found s at n (place at n) p end → bytes_in s p ≡ part s at n
found_bytes {s} {at} {n} f = ap (bytes_in s) f.value ∙ bytes_there n s at (le-leb (at + n) (length s) f.room)

pub uuid_forth : (s : List ℕ) (at : ℕ) {p : Place} {end : ℕ} → uuid_at s at ≡ got p end → (length (bytes_in s p) ≡ 16) × Stands fine at (bytes_in s p) s end
uuid_forth s at {p} {end} e =
    let f = run_found 16 s at e in
    let long : length (part s at 16) ≡ 16 = length_part s at 16 f.room in
    subst (λ (l : List ℕ). (length l ≡ 16) × Stands fine at l s end) (sym (found_bytes f))
    (long, record { nothing = refl; holds = holds_part s at 16 f.room; end = f.ends ∙ ap (λ (k : ℕ). at + k) (sym long) })

-- a count and the bytes behind it, said once over the width of the count: c bytes whose count is the number of the n bytes before them
module _ (s : List ℕ) (b : Bytes s) (at n c : ℕ) (count : c ≡ be (part s at n)) (first : at + n ≤ length s) {p : Place} {end : ℕ}
    (f : Found s (at + n) c (place (at + n) c) p end) where
  text_length : length (bytes_in s p) ≡ c
  text_length = ap length (found_bytes f) ∙ length_part s (at + n) c f.room

  counted_holds : Holds s at (counted n (bytes_in s p))
  unfolding counted
  counted_holds =
      let same : digits n (length (bytes_in s p)) ≡ part s at n =
      ap (digits n) (text_length ∙ count) ∙ digits_be n (part s at n) (length_part s at n first) (bytes_part s at n b)
      in
      let there : Holds s at (digits n (length (bytes_in s p))) = subst (λ (l : List ℕ). Holds s at l) (sym same) (holds_part s at n first) in
      let content : Holds s (at + n) (bytes_in s p) = subst (λ (l : List ℕ). Holds s (at + n) l) (sym (found_bytes f)) (holds_part s (at + n) c f.room) in
      holds_join s at (digits n (length (bytes_in s p))) (bytes_in s p) there
      (subst (λ (k : ℕ). Holds s (at + k) (bytes_in s p)) (sym (length_digits n (length (bytes_in s p)))) content)

  pub counted_stands : {check : Check} → check ≡ fine → Stands check at (counted n (bytes_in s p)) s end
  counted_stands e =
      record {
        nothing = e;
        holds = counted_holds;
        end = f.ends ∙ add_assoc at n c ∙ ap (λ (k : ℕ). at + k) (ap (λ (k : ℕ). n + k) (sym text_length) ∙ sym (length_counted n (bytes_in s p)));
      }

  pub count_fits : (limit : ℕ) → c ≤ limit → count_check limit (bytes_in s p) ≡ fine
  count_fits limit h = demanded not_writable fine (le-leb (length (bytes_in s p)) limit (subst (λ (k : ℕ). k ≤ limit) (sym text_length) h))

  pub text_fits_too : (limit : ℕ) → c ≤ limit → utf8 (part s (at + n) c) ≡ true → text_check limit (bytes_in s p) ≡ fine
  text_fits_too limit h u =
      demanded not_writable (demand (utf8 (bytes_in s p)) not_utf8 fine) (le-leb (length (bytes_in s p)) limit (subst (λ (k : ℕ). k ≤ limit) (sym text_length) h))
      ∙ demanded not_utf8 fine (ap utf8 (found_bytes f) ∙ u)

-- what was read behind a [short], or behind an [int] that counts
module _ (s : List ℕ) (b : Bytes s) (at : ℕ) where
  pub short_small : {x end : ℕ} → Found s at 2 (be (part s at 2)) x end → x ≤ max_short
  short_small f =
      let below : be (part s at 2) < 65536 = be_below 2 (part s at 2) (length_part s at 2 f.room) (bytes_part s at 2 b) in
      omega (arith, f.value)

  pub short_bytes_forth : {p : Place} {end : ℕ} → short_bytes_at s at ≡ got p end → Stands (count_check max_short (bytes_in s p)) at (counted 2 (bytes_in s p)) s end
  unfolding short_bytes_at
  short_bytes_forth e =
      let h = behind (short_at s at) (run_at s) e in
      let c = number_found 2 s at h.first in
      let f = run_found h.value s (at + 2) (ap (run_at s h.value) (sym c.ends) ∙ h.then) in
      counted_stands s b at 2 h.value c.value c.room f (count_fits s b at 2 h.value c.value c.room f max_short (short_small c))

  pub string_forth : {p : Place} {end : ℕ} → string_at s at ≡ got p end → Stands (text_check max_short (bytes_in s p)) at (counted 2 (bytes_in s p)) s end
  unfolding string_at
  string_forth e =
      let h = behind (short_at s at) (text_at s) e in
      let c = number_found 2 s at h.first in
      let f = text_found h.value s (at + 2) (ap (text_at s h.value) (sym c.ends) ∙ h.then) in
      counted_stands s b at 2 h.value c.value c.room f.run
      (text_fits_too s b at 2 h.value c.value c.room f.run max_short (short_small c) f.text)

  pub long_string_forth : {p : Place} {end : ℕ} → long_string_at s at ≡ got p end → Stands (text_check max_int (bytes_in s p)) at (counted 4 (bytes_in s p)) s end
  unfolding long_string_at
  long_string_forth {p} {end} e =
      let h = behind (count_at s at) (long_text s) e in
      by_count h.value (count_found s at h.first) h.then
    where
      by_count : (c : Option ℕ) {next : ℕ} → Found s at 4 (natural (to_z w32 (be (part s at 4)))) c next → long_text s c next ≡ got p end → Stands (text_check max_int (bytes_in s p)) at (counted 4 (bytes_in s p)) s end
      by_count none c q = absurd (got_refused q)
      by_count (some n) c q =
          let k : Counted (be (part s at 4)) n = some_counted (be (part s at 4)) n c.value in
          let f = text_found n s (at + 4) (ap (text_at s n) (sym c.ends) ∙ q) in
          counted_stands s b at 4 n k.value c.room f.run (text_fits_too s b at 4 n k.value c.room f.run max_int k.small f.text)

  -- [bytes] that are not null
  pub bytes_forth : {p : Place} {end : ℕ} → bytes_at s at ≡ got (some p) end → Stands (bytes_check (some (bytes_in s p))) at (bytes_bytes (some (bytes_in s p))) s end
  unfolding bytes_at
  bytes_forth {p} {end} e =
      let h = behind (count_at s at) (nullable_run s) e in
      by_count h.value (count_found s at h.first) h.then
    where
      by_count : (c : Option ℕ) {next : ℕ} → Found s at 4 (natural (to_z w32 (be (part s at 4)))) c next → nullable_run s c next ≡ got (some p) end
          → Stands (bytes_check (some (bytes_in s p))) at (bytes_bytes (some (bytes_in s p))) s end
      by_count none c q = let z : ◌≡◌ {A = ℕ} 0 1 = cc in let f : ⊥ = omega arith in absurd f
      by_count (some n) {next} c q =
          let k : Counted (be (part s at 4)) n = some_counted (be (part s at 4)) n c.value in
          let h = behind (run_at s n next) (λ p next. got (some p) next) q in
          let v : h.value ≡ p = cc h.then in
          let f = run_found n s (at + 4) (ap (run_at s n) (sym c.ends) ∙ h.first ∙ ap₂ got v (got_next h.then)) in
          counted_stands s b at 4 n k.value c.room f (count_fits s b at 4 n k.value c.room f max_int k.small)

  -- [bytes] whose count is -1 are null, and come back; the other negative counts do not
  pub null_forth : {end : ℕ} → int_at s at ≡ got (negsuc 0) end → (bytes_at s at ≡ got none end) × Stands (bytes_check none) at (bytes_bytes none) s end
  unfolding bytes_at count_at
  null_forth i = (then_got (nullable_run s) (then_got (λ z next. got (natural z) next) i), int_forth s b at i)

  -- and null was read from a negative count
  pub null_negative : {end : ℕ} → bytes_at s at ≡ got none end → (k : ℕ) × (int_at s at ≡ got (negsuc k) end)
  unfolding bytes_at count_at
  null_negative {end} e =
      let h = behind (count_at s at) (nullable_run s) e in
      let i = behind (int_at s at) (λ z next. got (natural z) next) h.first in
      by_count i.value i.next i.first (ap₂ (λ (c : Option ℕ) (k : ℕ). nullable_run s c k) (got_value i.then) (got_next i.then) ∙ h.then)
    where
      by_count : (z : ℤ) (next : ℕ) → int_at s at ≡ got z next → nullable_run s (natural z) next ≡ got none end → (k : ℕ) × (int_at s at ≡ got (negsuc k) end)
      by_count (pos n) next i q =
          let h = behind (run_at s n next) (λ p next. got (some p) next) q in
          let z : ◌≡◌ {A = ℕ} 0 1 = cc h.then in
          let f : ⊥ = omega arith in
          absurd f
      by_count (negsuc k) next i q = (k, i ∙ ap (got (negsuc k)) (got_next q))
