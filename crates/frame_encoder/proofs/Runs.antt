-- What runs of calls leave: packed envelopes are one segment, and a split envelope is segments that join to it. Assumes nothing.
use Prim.Native.Nat.{ℕ, zero, suc, ◌+◌, ◌-◌, ◌≤◌, ◌<◌}
use mathlib.Core.Path.{◌≡◌, refl, sym, ap, ◌∙◌, subst}
use mathlib.Core.Bool.{Bool, true, false}
use mathlib.Core.List.{List, [], ◌∷◌, ◌++◌}
use native.Mathlib.Nat.{add-zero, zero-add, not-suc-le-zero, le_refl}
use native.Mathlib.Omega.{arith}
use borrow.Author.Tests.{le-leb, eq-eqb}
use lib.ListN.{length, take, drop, length-append, take-append-drop, length-drop}
use lib.Seq.{length-take-le, take-length}
use Rattle.refusal.specs.Refusal.{Refusal, inadmissible, output_too_short, segment_not_empty}
use Rattle.types.specs.Number.{part}
use Rattle.types.specs.Write.{put, Check, fine, against, joined}
use Rattle.types.proofs.Put.{put_none, put_put, length_put, demanded}
use Rattle.types.specs.ThereAndBack.{Holds}
use Rattle.types.proofs.Holds.{holds_put}
use Rattle.segment.specs.Header.{Form, header_length}
use Rattle.segment.specs.Segment.{max_payload, segment_length, segment_bytes, Run, no_segment, one_segment}
use Rattle.segment.proofs.WrittenRead.{segment_back}
use Rattle.frame_encoder.specs.Writer.{Writer, writer, fresh, wrote, refused, Done, done, unless, add_check, add, finish_check, finish, piece_of, piece_check, piece}
use Rattle.frame_encoder.specs.Runs.{Added, none_added, one_added, Split, all_sent, one_sent, Sent}
use Rattle.frame_encoder.proofs.Checked.{AddFine, add_fine, FinishFine, finish_fine, PieceFine, piece_fine, piece_most, piece_some, unless_fine}
use Rattle.frame_encoder.proofs.Laid.{segment_length_lem, piece_laid}

-- ---- a call that was accepted

wrote_refused : {size taken : ℕ} {why : Refusal} → refused why ≡ wrote size taken → ⊥
wrote_refused e = let z : ◌≡◌ {A = ℕ} 0 1 = cc in omega arith

-- its check has passed, and it left what it should
pub passed : (c : Check) (w : Writer) (out : List ℕ) (d : Done) {v : Writer} {size taken : ℕ} {end : List ℕ} → unless c w out d ≡ done v (wrote size taken) end
    → (c ≡ fine) × (d ≡ done v (wrote size taken) end)
passed fine w out d e = (refl, e)
passed (against why) w out d e = absurd (wrote_refused (ap (λ (x : Done). x.reply) e))

-- the size that is answered, and how much was taken
sized : {v w : Writer} {m n a b : ℕ} {out end : List ℕ} → done v (wrote m a) out ≡ done w (wrote n b) end → n ≡ m
sized e = cc (ap (λ (d : Done). d.reply) e)

taken_is : {v w : Writer} {m n a b : ℕ} {out end : List ℕ} → done v (wrote m a) out ≡ done w (wrote n b) end → b ≡ a
taken_is e = cc (ap (λ (d : Done). d.reply) e)

-- ---- envelopes packed into a segment

-- what stands behind the header once they are added
pub record Packed (w : Writer) (out : List ℕ) (envelopes : List (List ℕ)) (v : Writer) (end : List ℕ) : Type 0 where
  pub after : v ≡ writer w.form (w.payload + length (joined envelopes))
  pub output : end ≡ put out (header_length w.form + w.payload) (joined envelopes)
  pub room : header_length w.form + w.payload + length (joined envelopes) ≤ length out
  pub small : w.payload + length (joined envelopes) ≤ max_payload

packed_one : (w : Writer) (out envelope rest : List ℕ) {u : Writer} {end : List ℕ} → AddFine w (length out) (length envelope)
    → u ≡ writer w.form (w.payload + length envelope + length rest)
    → end ≡ put (put out (header_length w.form + w.payload) envelope) (header_length w.form + (w.payload + length envelope)) rest
    → header_length w.form + (w.payload + length envelope) + length rest ≤ length (put out (header_length w.form + w.payload) envelope)
    → w.payload + length envelope + length rest ≤ max_payload
    → (u ≡ writer w.form (w.payload + length (envelope ++ rest))) × (end ≡ put out (header_length w.form + w.payload) (envelope ++ rest))
    × (header_length w.form + w.payload + length (envelope ++ rest) ≤ length out) × (w.payload + length (envelope ++ rest) ≤ max_payload)
packed_one w out envelope rest {u} ok p q r t =
    let k : ℕ = header_length w.form + w.payload in
    let e : List ℕ = envelope in
    let enough : segment_length w.form (w.payload + length e) ≤ length out = ok.enough in
    let l : length (put out k e) ≡ length out = length_put out k e (omega arith) in
    let j : length (e ++ rest) ≡ length e + length rest = length-append e rest in
    let a : header_length w.form + (w.payload + length e) ≡ k + length e = omega arith in (
      p ∙ ap (writer w.form) (let z : w.payload + length e + length rest ≡ w.payload + length (e ++ rest) = omega arith in z),
      q ∙ ap (λ (i : ℕ). put (put out k e) i rest) a ∙ put_put out k e rest (omega arith),
      omega arith,
      omega arith,
    )

pub packed : (w : Writer) (out : List ℕ) (envelopes : List (List ℕ)) {v : Writer} {end : List ℕ} → w.payload ≤ max_payload → header_length w.form + w.payload ≤ length out
    → Added w out envelopes v end → Packed w out envelopes v end
unfolding joined add
packed w out [] small room none_added =
    record {
      after = ap (writer w.form) (sym (add-zero w.payload));
      output = sym (put_none out (header_length w.form + w.payload));
      room = omega arith;
      small = omega arith;
    }
packed w out (e ∷ es) {v = u} {end = end} small room (one_added {v = v} {mid = mid} q more) =
    let k : ℕ = header_length w.form + w.payload in
    let a = passed (add_check w (length out) (length e)) w out _ q in
    let ok : AddFine w (length out) (length e) = add_fine w (length out) (length e) a.0 in
    let enough : segment_length w.form (w.payload + length e) ≤ length out = ok.enough in
    let next : writer w.form (w.payload + length e) ≡ v = ap (λ (d : Done). d.after) a.1 in
    let here : put out k e ≡ mid = ap (λ (d : Done). d.output) a.1 in
    let on : Added (writer w.form (w.payload + length e)) (put out k e) es u end =
    subst (λ (x : Writer). Added x (put out k e) es u end) (sym next) (subst (λ (x : List ℕ). Added v x es u end) (sym here) more)
    in
    let l : length (put out k e) ≡ length out = length_put out k e (omega arith) in
    let i = packed (writer w.form (w.payload + length e)) (put out k e) es ok.small (omega arith) on in
    let one = packed_one w out e (joined es) ok i.after i.output i.room i.small in
    record { after = one.0; output = one.1; room = one.2; small = one.3 }

sent : (f : Form) (self : Bool) (payload out : List ℕ) {end : List ℕ} {size : ℕ} → length payload ≤ max_payload → segment_length f (length payload) ≤ length out
    → end ≡ put out 0 (segment_bytes f self payload) → size ≡ segment_length f (length payload) → Sent f self payload out end size
sent f self payload out {end} {size} small room e s =
    let l : length (segment_bytes f self payload) ≡ segment_length f (length payload) = segment_length_lem f self payload in
    let there : Holds end 0 (segment_bytes f self payload) =
    subst (λ (x : List ℕ). Holds x 0 (segment_bytes f self payload)) (sym e) (holds_put out 0 (segment_bytes f self payload) (omega (arith, zero-add (length (segment_bytes f self payload)))))
    in
    let bytes : List ℕ = segment_bytes f self payload in
    let is : take size end ≡ bytes = ap (λ (k : ℕ). take k end) (s ∙ sym l) ∙ there.is in
    let itself : Holds (take size end) 0 bytes = subst (λ (x : List ℕ). Holds x 0 bytes) (sym is) (record { room = omega (arith, zero-add (length bytes)); is = take-length bytes }) in
    record {
      output = e;
      size_is = s ∙ sym l;
      reads = segment_back f self payload small end there;
      goes_out = record { reads = segment_back f self payload small (take size end) itself; ends = ap length is ∙ l };
    }

pub packed_segment : (f : Form) (out : List ℕ) (envelopes : List (List ℕ)) {w v : Writer} {mid end : List ℕ} {size taken : ℕ} → header_length f ≤ length out
    → Added (fresh f) out envelopes w mid → finish w mid ≡ done v (wrote size taken) end → Sent f true (joined envelopes) out end size × (v ≡ fresh f)
unfolding finish
packed_segment f out envelopes {w} {v} {mid} {end} {size} enough adds fin =
    let p : Packed (fresh f) out envelopes w mid = packed (fresh f) out envelopes (omega arith) (omega arith) adds in
    let J : List ℕ = joined envelopes in
    let is : w ≡ writer f (length J) = p.after ∙ ap (writer f) (zero-add (length J)) in
    let there : mid ≡ put out (header_length f) J = p.output ∙ ap (λ (i : ℕ). put out i J) (add-zero (header_length f)) in
    let a = passed (finish_check w (length mid)) w mid _ fin in
    let ok : FinishFine w (length mid) = finish_fine w (length mid) a.0 in
    let lm : length mid ≡ length out = ap length there ∙ length_put out (header_length f) J (omega (arith, p.room)) in
    let room : segment_length f (length J) ≤ length out = omega (arith, subst (λ (x : Writer). segment_length x.form x.payload ≤ length mid) is ok.enough) in
    let small : length J ≤ max_payload = subst (λ (x : Writer). x.payload ≤ max_payload) is ok.small in
    let closed : end ≡ put mid 0 (segment_bytes f true (part mid (header_length f) (length J))) =
    sym (ap (λ (d : Done). d.output) a.1) ∙ ap (λ (x : Writer). put mid 0 (segment_bytes x.form true (part mid (header_length x.form) x.payload))) is
    in
    let long : size ≡ segment_length f (length J) = sized a.1 ∙ ap (λ (x : Writer). segment_length x.form x.payload) is in (
      sent f true J out small room (piece_laid f true out J room refl refl there closed) long,
      sym (ap (λ (d : Done). d.after) a.1) ∙ ap (λ (x : Writer). fresh x.form) is,
    )

-- ---- a piece, and an envelope in pieces

-- a piece is the segment of what it took
pub piece_segment : (f : Form) (out envelope : List ℕ) {v : Writer} {end : List ℕ} {size taken : ℕ} → piece (fresh f) out envelope ≡ done v (wrote size taken) end
    → Sent f false (take taken envelope) out end size × (taken ≡ piece_of (length envelope)) × (v ≡ fresh f)
unfolding piece
piece_segment f out envelope {v} {end} {size} {taken} e =
    let n : ℕ = piece_of (length envelope) in
    let a = passed (piece_check (fresh f) (length out) (length envelope)) (fresh f) out _ e in
    let ok : PieceFine (fresh f) (length out) (length envelope) = piece_fine (fresh f) (length out) (length envelope) a.0 in
    let t : taken ≡ n = taken_is a.1 in
    let most = piece_most (length envelope) in
    let l : length (take n envelope) ≡ n = length-take-le n envelope most.0 in
    let p : List ℕ = take n envelope in
    let s : Sent f false p out end size =
    sent f false p out (subst (λ (k : ℕ). k ≤ max_payload) (sym l) most.1) (subst (λ (k : ℕ). segment_length f k ≤ length out) (sym l) ok.enough)
    (sym (ap (λ (d : Done). d.output) a.1)) (sized a.1 ∙ ap (segment_length f) (sym l))
    in
    (subst (λ (k : ℕ). Sent f false (take k envelope) out end size) (sym t) s, t, sym (ap (λ (d : Done). d.after) a.1))

pub split_joins : {f : Form} {envelope : List ℕ} {segments : List (List ℕ)} → Split f envelope segments → Run f segments envelope
split_joins all_sent = no_segment
split_joins {f} {envelope} {segments} (one_sent out {taken = taken} some e more) =
    subst (Run f segments) (take-append-drop taken envelope) (one_segment (piece_segment f out envelope e).0.goes_out (split_joins more))

-- ---- it always comes to an end

-- into an output that has room for the longest segment, the pieces go on until nothing is left
module _ (f : Form) (out : List ℕ) (room : segment_length f max_payload ≤ length out) where
  piece_made : (envelope : List ℕ)
      → piece (fresh f) out envelope
      ≡ done (fresh f) (wrote (segment_length f (piece_of (length envelope))) (piece_of (length envelope))) (put out 0 (segment_bytes f false (take (piece_of (length envelope)) envelope)))
  unfolding piece piece_check
  piece_made envelope =
      let m = piece_most (length envelope) in
      unless_fine (fresh f) out _
      (demanded inadmissible _ (le-leb 0 max_payload (omega arith))
      ∙ demanded segment_not_empty _ (eq-eqb 0 0 refl)
      ∙ demanded output_too_short fine (le-leb (segment_length f (piece_of (length envelope))) (length out) (omega (arith, m.1))))

  split_by : (n : ℕ) (envelope : List ℕ) → length envelope ≤ n → (segments : List (List ℕ)) × Split f envelope segments
  split_by zero [] h = ([], all_sent)
  split_by zero (x ∷ xs) h = absurd (not-suc-le-zero h)
  split_by (suc n) [] h = ([], all_sent)
  split_by (suc n) (x ∷ xs) h =
      let t : ℕ = piece_of (length (x ∷ xs)) in
      let some : 0 < t = piece_some (length (x ∷ xs)) (omega arith) in
      let l : length (drop t (x ∷ xs)) ≡ length (x ∷ xs) - t = length-drop t (x ∷ xs) in
      let r = split_by n (drop t (x ∷ xs)) (omega arith) in
      (take (segment_length f t) (put out 0 (segment_bytes f false (take t (x ∷ xs)))) ∷ r.0, one_sent out {envelope = x ∷ xs} (omega arith) (piece_made (x ∷ xs)) r.1)

  pub split_ends : (envelope : List ℕ) → (segments : List (List ℕ)) × Split f envelope segments
  split_ends envelope = split_by (length envelope) envelope (le_refl (length envelope))
