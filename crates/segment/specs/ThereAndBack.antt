-- Which headers come back as they were given, and which bytes are written again: docs/RULES.md, section 11. Assumes nothing.
use Rattle.std.specs.Prelude.{ℕ, ◌*◌, ◌<◌, ◌≡◌, List, take}
use Rattle.segment.specs.LittleEndian.{le}
use Rattle.segment.specs.Header.{Form, short, Header, number_length, lengths, self_weight}

-- lengths that 17 bits hold; the short form has no length before compression
pub record Fits (f : Form) (h : Header) : Type 0 where
  pub payload : h.payload < lengths
  pub uncompressed : h.uncompressed < lengths
  pub none : f ≡ short → h.uncompressed ≡ 0

-- the bits up to that of self-contained
abbrev pub used_bits : Form → ℕ
used_bits f = 2 * self_weight f

-- bits above that of self-contained are 0
abbrev pub UnusedZero : Form → List ℕ → Type 0
UnusedZero f s = le (take (number_length f) s) < used_bits f
