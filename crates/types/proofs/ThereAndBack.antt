-- Written, then read, and read, then written, for each notation: docs/RULES.md, section 11. One notation more is one value more in
-- specs/Notation.antt and two lines more here. Assumes nothing.
use Prim.Native.Nat.{ℕ, ◌+◌, ◌-◌, ◌^◌, ◌≤◌, ◌<◌}
use mathlib.Core.Path.{◌≡◌, refl, sym, ap, ap₂, ◌∙◌, subst}
use mathlib.Core.List.{List}
use mathlib.Core.Option.{Option, none, some}
use native.Mathlib.Omega.{arith}
use lib.Dec.{leb→le}
use lib.IntN.{ℤ, negsuc}
use lib.ListN.{length}
use lib.Signed.{◌≤ℤ◌}
use mir.Syntax.{Width, w32, w64}
use mir.Val.{Fits, SFits}
use mir.ValLaws.{to_z-Fits}
use Rattle.basis.specs.Bytes.{Bytes}
use Rattle.types.specs.Answer.{Answer, got}
use Rattle.types.specs.Number.{part}
use Rattle.types.specs.Read.{Place, place, strings, signed_at, string_at, long_string_at, short_bytes_at, bytes_at, bytes_in, texts_in, texts_of}
use Rattle.types.specs.Write.{Check, fine, put, counted, count_check, text_check, bytes_check, bytes_bytes, max_short, max_int, cut_by, joined, lengths_of, list_bytes, list_check}
use Rattle.types.specs.Notation.{Notation, unsigned, behind_count, text_and_lengths, byte, short, int, long, uuid, string, long_string, string_list, bytes, short_bytes}
use Rattle.types.specs.ThereAndBack.{Holds, Stands, ReadAs, WrittenRead, ReadWritten}
use Rattle.types.proofs.BigEndian.{be_below, length_part, bytes_part}
use Rattle.types.proofs.Found.{number_found, signed_found}
use Rattle.types.proofs.Holds.{holds_bytes, accepted, wrote_there, written_again}
use Rattle.types.proofs.Cut.{writes}
use Rattle.types.proofs.WrittenRead.{ReadsBack, number_back, int_back, long_back, uuid_back, string_back, long_string_back, short_bytes_back, bytes_back, null_back, content_back}
use Rattle.types.proofs.ReadWritten.{number_forth, int_forth, long_forth, uuid_forth, string_forth, long_string_forth, short_bytes_forth, bytes_forth, null_forth, null_negative}
use Rattle.types.proofs.Lists.{list_back, list_texts, pieces_joined, list_forth, cut_joined}

-- ---- any notation

module _ {Value Content : Type 0} (n : Notation Value Content) where
  -- a content is read wherever its bytes stand: so it is where they were written
  pub written_read :
      ((c : Content) → n.Given c → n.check c ≡ fine → (s : List ℕ) (at : ℕ) → Holds s at (n.written c) → ReadAs n s at c (at + length (n.written c)))
      → WrittenRead n
  written_read stands =
      record {
        back = λ c g {out} {left} {at} {next} w.
            let a = accepted (n.check c) w in
            subst (λ (k : ℕ). ReadAs n left at c k) (sym a.end) (stands c g a.nothing left at a.holds);
      }

  -- what was read may be written and stands there: so its bytes are those that were read
  pub read_written :
      ((s : List ℕ) → Bytes s → (at : ℕ) → n.Returns s at → (value : Value) (next : ℕ) → n.read s at ≡ got value next
      → n.Given (n.shows s value) × Stands (n.check (n.shows s value)) at (n.written (n.shows s value)) s next)
      → ReadWritten n
  read_written found =
      record {
        forth = λ s b at r {value} {next} e.
            let f = found s b at r value next e in
            let stands : Stands (n.check (n.shows s value)) at (n.written (n.shows s value)) s next = f.1 in
            let long : length (n.written (n.shows s value)) ≡ next - at = omega (arith, stands.end) in
            record {
              given = f.0;
              anywhere = λ {out} {left} {to} w h.
                  let there = wrote_there stands.nothing (subst (λ (k : ℕ). to + k ≤ length out) (sym long) h) w in (
                    there.0 ∙ ap (λ (k : ℕ). got (tt {0}) (to + k)) long,
                    there.1 ∙ ap (put out to) (sym stands.holds.is ∙ ap (part s at) long),
                  );
              again = written_again stands;
            };
      }

-- ---- numbers

pub unsigned_written_read : (n : ℕ) → WrittenRead (unsigned n)
unsigned_written_read n = written_read (unsigned n) (λ x g c s at h. record { value = x; reads = number_back n x g s at h; shown = refl })

pub unsigned_read_written : (n : ℕ) → ReadWritten (unsigned n)
unsigned_read_written n =
    read_written (unsigned n)
    (λ s b at r v next e.
    let f = number_found n s at e in
    (subst (λ (x : ℕ). x < 256 ^ n) (sym f.value) (be_below n (part s at n) (length_part s at n f.room) (bytes_part s at n b)), number_forth s b at n e))

pub byte_written_read : WrittenRead byte
byte_written_read = unsigned_written_read 1

pub byte_read_written : ReadWritten byte
byte_read_written = unsigned_read_written 1

pub short_written_read : WrittenRead short
short_written_read = unsigned_written_read 2

pub short_read_written : ReadWritten short
short_read_written = unsigned_read_written 2

-- the number of n bytes, as a signed one
signed_given : (w : Width) (n : ℕ) → ((x : ℕ) → x < 256 ^ n → Fits w x) → (s : List ℕ) → Bytes s → (at : ℕ) {z : ℤ} {next : ℕ} → signed_at w n s at ≡ got z next → SFits w z
signed_given w n fits s b at e =
    let f = signed_found n s at w e in
    subst (SFits w) (sym f.value) (to_z-Fits w _ (fits _ (be_below n (part s at n) (length_part s at n f.room) (bytes_part s at n b))))

pub int_written_read : WrittenRead int
int_written_read = written_read int (λ z g c s at h. record { value = z; reads = int_back z g s at h; shown = refl })

pub int_read_written : ReadWritten int
int_read_written = read_written int (λ s b at r v next e. (signed_given w32 4 (λ x h. record { fits = h }) s b at e, int_forth s b at e))

pub long_written_read : WrittenRead long
long_written_read = written_read long (λ z g c s at h. record { value = z; reads = long_back z g s at h; shown = refl })

pub long_read_written : ReadWritten long
long_read_written = read_written long (λ s b at r v next e. (signed_given w64 8 (λ x h. record { fits = h }) s b at e, long_forth s b at e))

-- ---- bytes and texts

pub uuid_written_read : WrittenRead uuid
uuid_written_read =
    written_read uuid
    (λ t g c s at h. record { value = place at 16; reads = uuid_back t g s at h; shown = ap (λ (k : ℕ). bytes_in s (place at k)) (sym g) ∙ holds_bytes s at t h })

pub uuid_read_written : ReadWritten uuid
uuid_read_written = read_written uuid (λ s b at r v next e. uuid_forth s at e)

module _ (n : ℕ) (read : List ℕ → ℕ → Answer Place) (check : List ℕ → Check) where
  pub counted_written_read : ((t : List ℕ) → check t ≡ fine → ReadsBack read (counted n t) (λ at. place (at + n) (length t))) → WrittenRead (behind_count n read check)
  counted_written_read back =
      written_read (behind_count n read check)
      (λ t g c s at h. record { value = place (at + n) (length t); reads = back t c s at h; shown = content_back n t s at h })

  pub counted_read_written :
      ((s : List ℕ) → Bytes s → (at : ℕ) (p : Place) (next : ℕ) → read s at ≡ got p next → Stands (check (bytes_in s p)) at (counted n (bytes_in s p)) s next)
      → ReadWritten (behind_count n read check)
  counted_read_written forth = read_written (behind_count n read check) (λ s b at r v next e. (tt, forth s b at v next e))

pub string_written_read : WrittenRead string
string_written_read = counted_written_read 2 string_at (text_check max_short) string_back

pub string_read_written : ReadWritten string
string_read_written = counted_read_written 2 string_at (text_check max_short) (λ s b at p next. string_forth s b at)

pub long_string_written_read : WrittenRead long_string
long_string_written_read = counted_written_read 4 long_string_at (text_check max_int) long_string_back

pub long_string_read_written : ReadWritten long_string
long_string_read_written = counted_read_written 4 long_string_at (text_check max_int) (λ s b at p next. long_string_forth s b at)

pub short_bytes_written_read : WrittenRead short_bytes
short_bytes_written_read = counted_written_read 2 short_bytes_at (count_check max_short) short_bytes_back

pub short_bytes_read_written : ReadWritten short_bytes
short_bytes_read_written = counted_read_written 2 short_bytes_at (count_check max_short) (λ s b at p next. short_bytes_forth s b at)

pub bytes_written_read : WrittenRead bytes
bytes_written_read = written_read bytes back
  where
    back : (c : Option (List ℕ)) → bytes.Given c → bytes_check c ≡ fine → (s : List ℕ) (at : ℕ) → Holds s at (bytes_bytes c) → ReadAs bytes s at c (at + length (bytes_bytes c))
    back none g c s at h = record { value = none; reads = null_back s at h; shown = refl }
    back (some t) g c s at h = record { value = some (place (at + 4) (length t)); reads = bytes_back t c s at h; shown = ap some (content_back 4 t s at h) }

-- of the negative counts -1 alone is -1 or more
only_minus_one : {k : ℕ} → negsuc 0 ≤ℤ negsuc k → k ≡ 0
only_minus_one {k} h = let z : k ≤ 0 = leb→le k 0 h.le in omega arith

pub bytes_read_written : ReadWritten bytes
bytes_read_written = read_written bytes forth
  where
    forth : (s : List ℕ) → Bytes s → (at : ℕ) → bytes.Returns s at → (value : Option Place) (next : ℕ) → bytes_at s at ≡ got value next
        → bytes.Given (bytes.shows s value) × Stands (bytes.check (bytes.shows s value)) at (bytes.written (bytes.shows s value)) s next
    forth s b at r none next e =
        let i = null_negative s b at e in
        (tt, (null_forth s b at (i.1 ∙ ap (λ (k : ℕ). got (negsuc k) next) (only_minus_one (r _ _ i.1)))).1)
    forth s b at r (some p) next e = (tt, bytes_forth s b at e)

-- ---- lists

pub string_list_written_read : WrittenRead string_list
string_list_written_read =
    written_read string_list
    (λ g a c s at h.
    let texts = list_texts g.0 g.1 c s at h in
    let same = pieces_joined g.0 g.1 (writes g.0 g.1 c).lengths in
    record {
      value = strings (length g.1) (at + 2);
      reads = list_back g.0 g.1 c s at h;
      shown = ap (λ (a : Answer (List Place)). text_and_lengths (texts_of s a)) texts.0 ∙ ap text_and_lengths texts.1 ∙ ap₂ (λ (x y : List ℕ). (x, y)) same.0 same.1;
    })

pub string_list_read_written : ReadWritten string_list
string_list_read_written =
    read_written string_list
    (λ s b at r v next e.
    let l = list_forth s b at e in
    let ts : List (List ℕ) = texts_in s l.places in
    subst (λ (xs : List (List ℕ)). Unit {0} × Stands (list_check (joined xs) (lengths_of xs)) at (list_bytes (cut_by (joined xs) (lengths_of xs))) s next)
    (sym (ap (texts_of s) l.met))
    (tt, subst (λ (xs : List (List ℕ)). Stands (list_check (joined ts) (lengths_of ts)) at (list_bytes xs) s next) (sym (cut_joined ts)) l.stands))
