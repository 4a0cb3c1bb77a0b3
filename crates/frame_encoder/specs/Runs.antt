-- Calls of a segment writer, one after the other. Assumes nothing.
use Rattle.std.specs.Prelude.{ℕ, ◌<◌, ◌≡◌, Bool, List, [], ◌∷◌, length, take, drop}
use Rattle.basis.specs.Front.{whole}
use Rattle.types.specs.Write.{put}
use Rattle.segment.specs.Header.{Form}
use Rattle.segment.specs.Segment.{segment, segment_at, segment_bytes, WholeSegment}
use Rattle.frame_encoder.specs.Writer.{Writer, fresh, wrote, done, add, piece}

-- envelopes are added, and each is accepted: from one writer and output to another
pub data Added : Writer → List ℕ → List (List ℕ) → Writer → List ℕ → Type 0 where
  none_added : {w : Writer} {out : List ℕ} → Added w out [] w out
  one_added : {w v u : Writer} {out mid end envelope : List ℕ} {envelopes : List (List ℕ)} {size taken : ℕ}
      → add w out envelope ≡ done v (wrote size taken) mid → Added v mid envelopes u end → Added w out (envelope ∷ envelopes) u end

-- an envelope is made into pieces, each from where the one before ended and into an output of its own, until nothing is left: what goes out of each
pub data Split (form : Form) : List ℕ → List (List ℕ) → Type 0 where
  all_sent : Split form [] []
  one_sent : (out : List ℕ) {w : Writer} {end envelope : List ℕ} {size taken : ℕ} {others : List (List ℕ)}
      → 0 < length envelope → piece (fresh form) out envelope ≡ done w (wrote size taken) end → Split form (drop taken envelope) others → Split form envelope (take size end ∷ others)

-- ---- what they leave

-- a segment of this payload at the output's front, which is read back; that is what goes out
pub record Sent (form : Form) (self : Bool) (payload out end : List ℕ) (size : ℕ) : Type 0 where
  pub output : end ≡ put out 0 (segment_bytes form self payload)
  pub size_is : size ≡ length (segment_bytes form self payload)
  pub reads : segment_at form end ≡ whole (segment self payload)
  pub goes_out : WholeSegment form (take size end) self payload
