-- Written, then read, for each notation: wherever its bytes stand they are read as its value. Assumes nothing.
use Prim.Native.Nat.{ℕ, ◌+◌, ◌^◌, ◌≤◌, ◌<◌}
use mathlib.Core.Path.{◌≡◌, refl, sym, ap, ap₂, ◌∙◌, subst}
use mathlib.Core.Bool.{true}
use mathlib.Core.List.{List}
use mathlib.Core.Option.{Option, none, some}
use native.Mathlib.Omega.{arith}
use native.Mathlib.Nat.{add_assoc}
use lib.Dec.{leb}
use lib.IntN.{ℤ}
use lib.ListN.{length}
use mir.Syntax.{Width, w32, w64}
use mir.Val.{to_z, of_z, SFits}
use mir.ValLaws.{to_z-of_z, of_z_fits}
use borrow.Author.Tests.{le-leb, leb-true}
use Rattle.refusal.specs.Refusal.{not_utf8, not_writable}
use Rattle.types.specs.Answer.{Answer, got, and_then}
use Rattle.types.specs.Number.{be, part, digits}
use Rattle.utf8.specs.Utf8.{utf8}
use Rattle.types.specs.Read.{Place, place, number_at, signed_at, short_at, int_at, long_at, run_at, text_at, uuid_at, natural, count_at, long_text, nullable_run, short_bytes_at, string_at, long_string_at, bytes_at, bytes_in}
use Rattle.types.specs.Write.{fine, demand, counted, count_check, text_check, bytes_bytes, bytes_check, max_short, max_int}
use Rattle.types.proofs.BigEndian.{length_digits, be_digits_fit}
use Rattle.types.proofs.Put.{length_counted}
use Rattle.types.proofs.Reading.{then_got, number_read, signed_read, run_read, text_read, count_read, natural_some, natural_none}
use Rattle.types.specs.ThereAndBack.{Holds}
use Rattle.types.proofs.Holds.{holds_left, holds_right, holds_bytes}
use Rattle.types.proofs.Cut.{demand_fine}

-- wherever bs stand, they are read as a value (which may tell where they stand), and the position behind them
abbrev pub ReadsBack : {A : Type 0} → (List ℕ → ℕ → Answer A) → List ℕ → (ℕ → A) → Type 0
ReadsBack read bs value = (s : List ℕ) (at : ℕ) → Holds s at bs → read s at ≡ got (value at) (at + length bs)

-- ---- numbers, over the number of bytes and the width

room_of : {s : List ℕ} {at : ℕ} {bs : List ℕ} {n : ℕ} → length bs ≡ n → Holds s at bs → leb (at + n) (length s) ≡ true
room_of {s} {at} {bs} {n} e h = le-leb (at + n) (length s) (subst (λ (k : ℕ). at + k ≤ length s) e h.room)

-- the number that is held
held_number : (s : List ℕ) (at n x : ℕ) → x < 256 ^ n → Holds s at (digits n x) → be (part s at n) ≡ x
held_number s at n x f h = ap (λ (k : ℕ). be (part s at k)) (sym (length_digits n x)) ∙ ap be h.is ∙ be_digits_fit n x f

pub number_back : (n x : ℕ) → x < 256 ^ n → ReadsBack (number_at n) (digits n x) (λ at. x)
number_back n x f s at h =
    number_read n s at (room_of (length_digits n x) h)
    ∙ ap₂ (λ (v k : ℕ). got v (at + k)) (held_number s at n x f h) (sym (length_digits n x))

pub signed_back : (w : Width) (n : ℕ) (z : ℤ) → SFits w z → of_z w z < 256 ^ n → ReadsBack (signed_at w n) (digits n (of_z w z)) (λ at. z)
signed_back w n z fits f s at h =
    signed_read n s at (room_of (length_digits n (of_z w z)) h) w
    ∙ ap₂ (λ (v : ℤ) (k : ℕ). got v (at + k)) (ap (to_z w) (held_number s at n (of_z w z) f h) ∙ to_z-of_z w z fits) (sym (length_digits n (of_z w z)))

pub short_back : (x : ℕ) → x < 65536 → ReadsBack short_at (digits 2 x) (λ at. x)
short_back x f = number_back 2 x f

pub int_back : (z : ℤ) → SFits w32 z → ReadsBack int_at (digits 4 (of_z w32 z)) (λ at. z)
int_back z f = signed_back w32 4 z f (of_z_fits w32 z f).fits

pub long_back : (z : ℤ) → SFits w64 z → ReadsBack long_at (digits 8 (of_z w64 z)) (λ at. z)
long_back z f = signed_back w64 8 z f (of_z_fits w64 z f).fits

-- ---- bytes and texts

pub uuid_back : (t : List ℕ) → length t ≡ 16 → ReadsBack uuid_at t (λ at. place at 16)
uuid_back t e s at h = run_read 16 s at (room_of e h) ∙ ap (λ (k : ℕ). got (place at 16) (at + k)) (sym e)

-- a count and what is counted, said once over the width of the count and over what is read behind it
module _ (n : ℕ) (t : List ℕ) (s : List ℕ) (at : ℕ) where
  module _ (h : Holds s at (counted n t)) where
    pub held_count : Holds s at (digits n (length t))
    unfolding counted
    held_count = holds_left s at (digits n (length t)) t h

    pub held_content : Holds s (at + n) t
    unfolding counted
    held_content = subst (λ (k : ℕ). Holds s (at + k) t) (length_digits n (length t)) (holds_right s at (digits n (length t)) t h)

  counted_end : at + n + length t ≡ at + length (counted n t)
  counted_end = add_assoc at n (length t) ∙ ap (λ (k : ℕ). at + k) (sym (length_counted n t))

  -- the count is read as a value of any type, and behind it the content
  pub counted_back : {C A : Type 0} (count : Answer C) (content : C → ℕ → Answer A) (c : C) (v : A) → count ≡ got c (at + n) → content c (at + n) ≡ got v (at + n + length t)
      → and_then count content ≡ got v (at + length (counted n t))
  counted_back count content c v p q = then_got content p ∙ q ∙ ap (got v) counted_end

  run_behind : Holds s at (counted n t) → run_at s (length t) (at + n) ≡ got (place (at + n) (length t)) (at + n + length t)
  run_behind h = run_read (length t) s (at + n) (room_of refl (held_content h))

  text_behind : utf8 t ≡ true → Holds s at (counted n t) → text_at s (length t) (at + n) ≡ got (place (at + n) (length t)) (at + n + length t)
  text_behind u h = text_read (length t) s (at + n) (room_of refl (held_content h)) (ap utf8 (held_content h).is ∙ u)

-- what the two checks say
counts : (limit : ℕ) (t : List ℕ) → count_check limit t ≡ fine → length t ≤ limit
counts limit t c = leb-true (length t) limit (demand_fine (leb (length t) limit) not_writable fine c).0

pub record TextFits (limit : ℕ) (t : List ℕ) : Type 0 where
  pub short : length t ≤ limit
  pub text : utf8 t ≡ true

pub text_fits : (limit : ℕ) (t : List ℕ) → text_check limit t ≡ fine → TextFits limit t
text_fits limit t c =
    let a = demand_fine (leb (length t) limit) not_writable (demand (utf8 t) not_utf8 fine) c in
    record { short = leb-true (length t) limit a.0; text = (demand_fine (utf8 t) not_utf8 fine a.1).0 }

short_count : (t : List ℕ) (s : List ℕ) (at : ℕ) → length t ≤ max_short → Holds s at (counted 2 t) → short_at s at ≡ got (length t) (at + 2)
short_count t s at f h = short_back (length t) (omega arith) s at (held_count 2 t s at h) ∙ ap (λ (k : ℕ). got (length t) (at + k)) (length_digits 2 (length t))

int_count : (t : List ℕ) (s : List ℕ) (at : ℕ) → length t ≤ max_int → Holds s at (counted 4 t) → count_at s at ≡ got (some (length t)) (at + 4)
int_count t s at f h =
    count_read s at (room_of (length_digits 4 (length t)) (held_count 4 t s at h))
    ∙ ap (λ (x : Option ℕ). got x (at + 4))
    (ap (λ (x : ℕ). natural (to_z w32 x)) (held_number s at 4 (length t) (omega arith) (held_count 4 t s at h)) ∙ natural_some w32 (length t) (omega arith))

pub short_bytes_back : (t : List ℕ) → count_check max_short t ≡ fine → ReadsBack short_bytes_at (counted 2 t) (λ at. place (at + 2) (length t))
unfolding short_bytes_at
short_bytes_back t c s at h =
    counted_back 2 t s at (short_at s at) (run_at s) (length t) _ (short_count t s at (counts max_short t c) h) (run_behind 2 t s at h)

pub string_back : (t : List ℕ) → text_check max_short t ≡ fine → ReadsBack string_at (counted 2 t) (λ at. place (at + 2) (length t))
unfolding string_at
string_back t c s at h =
    let f : TextFits max_short t = text_fits max_short t c in
    counted_back 2 t s at (short_at s at) (text_at s) (length t) _ (short_count t s at f.short h) (text_behind 2 t s at f.text h)

pub long_string_back : (t : List ℕ) → text_check max_int t ≡ fine → ReadsBack long_string_at (counted 4 t) (λ at. place (at + 4) (length t))
unfolding long_string_at
long_string_back t c s at h =
    let f : TextFits max_int t = text_fits max_int t c in
    counted_back 4 t s at (count_at s at) (long_text s) (some (length t)) _ (int_count t s at f.short h) (text_behind 4 t s at f.text h)

-- [bytes], null or not
pub bytes_back : (t : List ℕ) → bytes_check (some t) ≡ fine → ReadsBack bytes_at (bytes_bytes (some t)) (λ at. some (place (at + 4) (length t)))
unfolding bytes_at
bytes_back t c s at h =
    counted_back 4 t s at (count_at s at) (nullable_run s) (some (length t)) _ (int_count t s at (counts max_int t c) h)
    (then_got (λ (p : Place) (next : ℕ). got (some p) next) (run_behind 4 t s at h))

pub null_back : ReadsBack bytes_at (bytes_bytes none) (λ at. none)
unfolding bytes_at
null_back s at h =
    let e : be (part s at 4) ≡ 0xffff_ffff = held_number s at 4 0xffff_ffff (omega arith) h in
    then_got (nullable_run s)
    (count_read s at (room_of (length_digits 4 0xffff_ffff) h)
    ∙ ap (λ (x : Option ℕ). got x (at + 4)) (ap (λ (x : ℕ). natural (to_z w32 x)) e ∙ natural_none w32 0xffff_ffff (omega arith)))
    ∙ ap (λ (k : ℕ). got none (at + k)) (sym (length_digits 4 0xffff_ffff))

-- the text or the bytes that come back are those that were written
pub content_back : (n : ℕ) (t : List ℕ) (s : List ℕ) (at : ℕ) → Holds s at (counted n t) → bytes_in s (place (at + n) (length t)) ≡ t
content_back n t s at h = holds_bytes s (at + n) t (held_content n t s at h)
