-- A machine that is given a stream in pieces: what a call comes to, what using up a piece comes to, and what its caller hears of all. Said once of any state, of anything that is handed
-- on, of any refusal and of anything that is held at the end. Assumes nothing.
use Rattle.std.specs.Prelude.{ℕ, ◌+◌, ◌≤◌, ◌≡◌, List, [], ◌∷◌, length, drop}

-- ---- one call

-- it hands something on, asks for more, or refuses
pub data Reply (X E : Type 0) : Type 0 where
  hands_on : X → Reply X E
  asks_more : Reply X E
  refuses_with : E → Reply X E

-- and it took so many bytes of the piece, and leaves this state
pub record Step (S X E : Type 0) : Type 0 where
  pub reply : Reply X E
  pub taken : ℕ
  pub next : S

abbrev pub step : {S X E : Type 0} → Reply X E → ℕ → S → Step S X E
step reply taken next = record { reply = reply; taken = taken; next = next }

-- ---- what is told of a whole stream

-- what is handed on, and after how many bytes of the stream that is due
pub record Dated (X : Type 0) : Type 0 where
  pub after : ℕ
  pub what : X

abbrev pub dated : {X : Type 0} → ℕ → X → Dated X
dated after what = record { after = after; what = what }

-- all that is handed on, in order; and then the end: a refusal and how many bytes were taken up to it, or what is held when all were taken
pub data Story (X E H : Type 0) : Type 0 where
  says : Dated X → Story X E H → Story X E H
  refused_after : E → ℕ → Story X E H
  holding : H → Story X E H

-- all of this, and then that
abbrev pub saying : {X E H : Type 0} → List (Dated X) → Story X E H → Story X E H
saying [] m = m
saying (x ∷ xs) m = says x (saying xs m)

-- ---- a piece is used up

-- more is asked for, or it is refused
pub data Close (E : Type 0) : Type 0 where
  used_up : Close E
  refused_with : E → Close E

-- A caller calls with what is left of a piece until more is asked for or it is refused; each call is made with the state that the one before left, untouched. From a state, with so many bytes
-- taken before: what is handed on, how that ends, how many bytes are taken then, and the state that is left.
pub data Uses {S X E : Type 0} (call : S → List ℕ → Step S X E) : S → ℕ → List ℕ → List (Dated X) → Close E → ℕ → S → Type 0 where
  by_more : {s t : S} {taken n : ℕ} {piece : List ℕ} → call s piece ≡ step asks_more n t → Uses call s taken piece [] used_up (taken + n) t
  by_refusal : {s t : S} {taken n : ℕ} {piece : List ℕ} {e : E} → call s piece ≡ step (refuses_with e) n t → Uses call s taken piece [] (refused_with e) (taken + n) t
  after_one : {s t u : S} {taken n end : ℕ} {piece : List ℕ} {x : X} {xs : List (Dated X)} {c : Close E}
      → call s piece ≡ step (hands_on x) n t → Uses call t (taken + n) (drop n piece) xs c end u
      → Uses call s taken piece (dated (taken + n) x ∷ xs) c end u

-- it is used up, with at most so much handed on
pub record Ends {S X E : Type 0} (call : S → List ℕ → Step S X E) (s : S) (taken : ℕ) (piece : List ℕ) (most : ℕ) : Type 0 where
  pub handed : List (Dated X)
  pub close : Close E
  pub end : ℕ
  pub last : S
  pub uses : Uses call s taken piece handed close end last
  pub soon : length handed ≤ most

-- two ways of using it up are one
pub record Same {S X E : Type 0} (xs ys : List (Dated X)) (c d : Close E) (m n : ℕ) (t u : S) : Type 0 where
  pub says : xs ≡ ys
  pub ends : c ≡ d
  pub taken : m ≡ n
  pub leaves : t ≡ u

-- ---- all pieces, one after the other

-- a refusal ends it; where all pieces are used up it is told what the last state holds
pub data Hears {S X E H : Type 0} (call : S → List ℕ → Step S X E) (holds : S → H) : S → ℕ → List (List ℕ) → Story X E H → Type 0 where
  all_given : {s : S} {taken : ℕ} → Hears call holds s taken [] (holding (holds s))
  one_used : {s t : S} {taken n : ℕ} {piece : List ℕ} {pieces : List (List ℕ)} {xs : List (Dated X)} {m : Story X E H}
      → Uses call s taken piece xs used_up n t → Hears call holds t n pieces m → Hears call holds s taken (piece ∷ pieces) (saying xs m)
  one_refused : {s t : S} {taken n : ℕ} {piece : List ℕ} {pieces : List (List ℕ)} {xs : List (Dated X)} {e : E}
      → Uses call s taken piece xs (refused_with e) n t → Hears call holds s taken (piece ∷ pieces) (saying xs (refused_after e n))
