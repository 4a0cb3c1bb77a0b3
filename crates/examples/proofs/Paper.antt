-- P1 to P13 of docs/RULES.md, section 13, under one claim: what the definitions say of each. Assumes nothing.
use Prim.Native.Nat.{ℕ}
use mathlib.Core.Path.{◌≡◌, refl}
use mathlib.Core.Bool.{true, false}
use mathlib.Core.List.{[], ◌∷◌, ◌++◌, map}
use lib.IntN.{pos, negsuc}
use Rattle.basis.specs.Front.{incomplete, refuses, whole}
use Rattle.crc.specs.Fold.{run}
use Rattle.crc.specs.Check24.{crc24}
use Rattle.types.specs.Number.{be, be_from}
use Rattle.types.specs.Read.{place, strings, bytes_in, number_at, run_at, text_at, string_at, strings_at, texts_in, listed, string_list_at}
use Rattle.utf8.specs.Utf8.{begin, step, after, utf8}
use Rattle.segment.specs.LittleEndian.{le_digits}
use Rattle.segment.specs.Header.{short, long, header_number, number_bytes, header_bytes}
use Rattle.frame.specs.Header.{header_of, known_version, known_opcode, has_id, has_warnings}
use Rattle.frame.specs.Envelope.{declared, sized, size_of, after_id, warnings_at, within, inside, envelope, id_in, body_in, warnings_in}
use Rattle.examples.specs.Example.{seen, header_bytes_of, crc24_of, front_of, begins, check, reads, shown}

-- whatever the fifteen bytes of P11 are
pub examples : (b₁ b₂ b₃ b₄ b₅ b₆ b₇ b₈ b₉ b₁₀ b₁₁ b₁₂ b₁₃ b₁₄ b₁₅ : ℕ) →
    map shown
    (header_bytes_of 3 short 0 true
    ∷ header_bytes_of 3 short 131071 false
    ∷ header_bytes_of 5 long 5 true
    ∷ crc24_of []
    ∷ front_of (0x05 ∷ 0x00 ∷ 0x00 ∷ 0x01 ∷ 0x05 ∷ 0x00 ∷ 0x00 ∷ 0x00 ∷ 0x00 ∷ [])
    ∷ front_of (0x85 ∷ 0x00 ∷ 0xff ∷ 0xff ∷ 0x0c ∷ 0x00 ∷ 0x00 ∷ 0x00 ∷ 0x00 ∷ [])
    ∷ front_of (0x05 ∷ 0x00 ∷ 0x00 ∷ 0x01 ∷ 0x05 ∷ 0x00 ∷ 0x00 ∷ 0x00 ∷ [])
    ∷ front_of (0x05 ∷ 0x00 ∷ 0x00 ∷ 0x01 ∷ 0x05 ∷ 0xff ∷ 0xff ∷ 0xff ∷ 0xff ∷ [])
    ∷ front_of (0x06 ∷ 0x00 ∷ 0x00 ∷ 0x01 ∷ 0x04 ∷ 0x00 ∷ 0x00 ∷ 0x00 ∷ 0x00 ∷ [])
    ∷ front_of (0x05 ∷ 0x00 ∷ 0x00 ∷ 0x01 ∷ 0x04 ∷ 0x00 ∷ 0x00 ∷ 0x00 ∷ 0x00 ∷ [])
    ∷ front_of ((0x85 ∷ 0x02 ∷ 0x00 ∷ 0x01 ∷ 0x02 ∷ 0x00 ∷ 0x00 ∷ 0x00 ∷ 0x0f ∷ []) ++ (b₁ ∷ b₂ ∷ b₃ ∷ b₄ ∷ b₅ ∷ b₆ ∷ b₇ ∷ b₈ ∷ b₉ ∷ b₁₀ ∷ b₁₁ ∷ b₁₂ ∷ b₁₃ ∷ b₁₄ ∷ b₁₅ ∷ []))
    ∷ front_of (0x85 ∷ 0x08 ∷ 0x00 ∷ 0x01 ∷ 0x02 ∷ 0x00 ∷ 0x00 ∷ 0x00 ∷ 0x05 ∷ 0x00 ∷ 0x01 ∷ 0x00 ∷ 0x01 ∷ 0x41 ∷ [])
    ∷ front_of (0x85 ∷ 0x08 ∷ 0x00 ∷ 0x01 ∷ 0x02 ∷ 0x00 ∷ 0x00 ∷ 0x00 ∷ 0x05 ∷ 0x00 ∷ 0x01 ∷ 0x00 ∷ 0x01 ∷ 0xff ∷ [])
    ∷ [])
    ≡ begins (0x00 ∷ 0x00 ∷ 0x02 ∷ [])
    ∷ begins (0xff ∷ 0xff ∷ 0x01 ∷ [])
    ∷ begins (0x05 ∷ 0x00 ∷ 0x00 ∷ 0x00 ∷ 0x04 ∷ [])
    ∷ check 0x875060
    ∷ reads
    (whole
    (record {
      envelope = record {
        size = 9;
        header = record { version = 5; response = false; flags = 0; stream = pos 1; opcode = 0x05 };
        traced = false;
        warnings = strings 0 9;
        body = place 9 0;
      };
      id = [];
      warnings = [];
      body = [];
    }))
    ∷ reads
    (whole
    (record {
      envelope = record {
        size = 9;
        header = record { version = 5; response = true; flags = 0; stream = negsuc 0; opcode = 0x0c };
        traced = false;
        warnings = strings 0 9;
        body = place 9 0;
      };
      id = [];
      warnings = [];
      body = [];
    }))
    ∷ reads incomplete
    ∷ reads (refuses 8)
    ∷ reads (refuses 9)
    ∷ reads (refuses 10)
    ∷ reads (refuses 11)
    ∷ reads
    (whole
    (record {
      envelope = record {
        size = 14;
        header = record { version = 5; response = true; flags = 0x08; stream = pos 1; opcode = 0x02 };
        traced = false;
        warnings = strings 1 11;
        body = place 14 0;
      };
      id = [];
      warnings = (0x41 ∷ []) ∷ [];
      body = [];
    }))
    ∷ reads (refuses 13)
    ∷ []
unfolding shown seen envelope size_of sized declared header_of known_version known_opcode has_id has_warnings after_id warnings_at within inside id_in body_in warnings_in be be_from bytes_in number_at run_at text_at string_at strings_at texts_in listed string_list_at utf8 after step begin le_digits header_number number_bytes header_bytes crc24 run
examples b₁ b₂ b₃ b₄ b₅ b₆ b₇ b₈ b₉ b₁₀ b₁₁ b₁₂ b₁₃ b₁₄ b₁₅ = refl
