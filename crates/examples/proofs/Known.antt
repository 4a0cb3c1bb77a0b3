-- The known bytes and checks of docs/RULES.md, 13.2 and 13.3, as the definitions give them. Assumes nothing.
use Prim.Native.Nat.{ℕ}
use mathlib.Core.Path.{◌≡◌, refl}
use mathlib.Core.Bool.{true, false}
use mathlib.Core.List.{List, [], ◌∷◌}
use Rattle.crc.specs.Fold.{run, times, if_set}
use Rattle.crc.specs.Check24.{shift24, byte24, crc24}
use Rattle.crc.specs.Check32.{shift32, byte32, common32, crc32}
use Rattle.segment.specs.LittleEndian.{le_digits}
use Rattle.segment.specs.Header.{short, long, header, header_number, number_bytes, header_bytes}
use Rattle.segment.specs.Segment.{segment_bytes}

pub known :
    segment_bytes short true [] ∷ header_bytes short (header 131071 0 false) ∷ header_bytes long (header 5 0 true) ∷ []
    ≡ (0x00 ∷ 0x00 ∷ 0x02 ∷ 0x6a ∷ 0x36 ∷ 0xc4 ∷ 0xd3 ∷ 0x7e ∷ 0x77 ∷ 0x44 ∷ [])
    ∷ (0xff ∷ 0xff ∷ 0x01 ∷ 0x38 ∷ 0x91 ∷ 0xfe ∷ [])
    ∷ (0x05 ∷ 0x00 ∷ 0x00 ∷ 0x00 ∷ 0x04 ∷ 0xe4 ∷ 0xab ∷ 0x8e ∷ [])
    ∷ []
unfolding segment_bytes header_bytes number_bytes header_number le_digits crc24 byte24 shift24 crc32 common32 byte32 shift32 run times if_set
known = refl

-- 13.3
abbrev digits : List ℕ
digits = 0x31 ∷ 0x32 ∷ 0x33 ∷ 0x34 ∷ 0x35 ∷ 0x36 ∷ 0x37 ∷ 0x38 ∷ 0x39 ∷ []

pub known_checks : crc24 (0x00 ∷ 0x00 ∷ 0x02 ∷ []) ∷ crc24 digits ∷ crc32 [] ∷ crc32 (0x00 ∷ []) ∷ crc32 digits ∷ [] ≡ 0xc4366a ∷ 0x4b3f02 ∷ 0x44777ed3 ∷ 0xcd9c1b9d ∷ 0xe2a261a7 ∷ []
unfolding crc24 byte24 shift24 crc32 common32 byte32 shift32 run times if_set
known_checks = refl
