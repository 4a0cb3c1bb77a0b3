-- What an answer means says the answer: from the paper's numbers and values the case itself follows. Assumes nothing.
use mathlib.Core.Path.{◌≡◌, refl, ap}
use Rattle.std.specs.Prelude as std
use Rattle.refusal.specs.Refusal as paper
use Rattle.refusal.specs.declared.Refusal.{Refusal}
use mathlib.Core.Bool.{true, false}
use Rattle.basis.proofs.Determined.{Tells}
use Rattle.refusal.proofs.Numbers.{case_of, case_of_paper}
use Rattle.types.proofs.Told.{code_place, walk_of}
use Rattle.basis.specs.Front.{Front, incomplete, refuses, whole}
use Rattle.frame.specs.Paper.{is_response, paper_header, paper_envelope, paper_front, paper_size, paper_reading}
use Rattle.frame.specs.declared.Direction.{Direction}

-- ---- headers

pub direction_told : Tells is_response
direction_told = record {
  back = elim [ true ↦ Direction.Response | false ↦ Direction.Request ];
  is = elim [ Direction.Request ↦ refl | Direction.Response ↦ refl ];
}

pub header_told : Tells paper_header
header_told = record {
  back = λ h. record { version = h.version; direction = direction_told.back h.response; flags = h.flags; stream = h.stream; opcode = h.opcode };
  is = λ h. ap (λ d. record { version = h.version; direction = d; flags = h.flags; stream = h.stream; opcode = h.opcode }) (direction_told.is h.direction);
}

-- ---- envelopes

pub envelope_told : Tells paper_envelope
envelope_told = record {
  back = λ e.
      record {
        size = e.size;
        header = header_told.back e.header;
        traced = e.traced;
        warnings = walk_of e.warnings.left e.warnings.at;
        body = code_place e.body;
      };
  is = λ e. ap (λ h. record { size = e.size; header = h; traced = e.traced; warnings = e.warnings; body = e.body }) (header_told.is e.header);
}

-- ---- what stands at the front

abbrev front_back : {A B : Type 0} → (B → A) → Front paper.Refusal B → std.Result (std.Option A) Refusal
front_back back incomplete = std.Ok std.None
front_back back (whole x) = std.Ok (std.Some (back x))
front_back back (refuses why) = std.Err (case_of why)

front_is : {A B : Type 0} {meaning : A → B} (t : Tells meaning) (r : std.Result (std.Option A) Refusal) → front_back t.back (paper_front meaning r) ≡ r
front_is t (std.Ok std.None) = refl
front_is t (std.Ok (std.Some x)) = ap (λ x. std.Ok (std.Some x)) (t.is x)
front_is t (std.Err e) = ap std.Err (case_of_paper e)

-- where a value's meaning tells it, an answer's does
pub front_told : {A B : Type 0} {meaning : A → B} → Tells meaning → Tells (paper_front meaning)
front_told t = record { back = front_back t.back; is = front_is t }

pub size_told : Tells paper_size
size_told = front_told (record { back = λ n. n; is = λ n. refl })

pub reading_told : Tells paper_reading
reading_told = front_told envelope_told
