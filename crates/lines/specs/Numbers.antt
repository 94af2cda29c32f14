-- The orders of checks of the two calls, as lists: statements only. Each is proved in proofs/Numbers.antt, under its
-- name in small letters. Document 01, "Count lines": writing checks 4, 3, 6, 7, 19, 17; reading 4, 18, 17.
-- #103: writing, 21 after 7.
--
--   written_number              the number that a call is answered with, 0 where bytes are written
--   write_checks, read_checks    the checks behind the first, in the byte order that is told
--   WriteNumber, ReadNumber    the number is that of the first check that fails
-- Assumes nothing.
use Rattle.line_layouts.specs.declared.Tag.{Tag}
use Rattle.answers.specs.declared.Answer.{Answer}
use Rattle.std.specs.Prelude.{◌≡◌, Bool, true, false, List, [], ◌∷◌, ℕ, ◌+◌, leb, length, Option, Result, Some, None, Ok, Err}
use Rattle.prelude.specs.Checks.{Check, ◌else◌, number_by}
use Rattle.prelude.specs.Each.{each}
use Rattle.answers.specs.Numbers.{number_of}
use Rattle.numbers.specs.declared.Order.{Order}
use Rattle.numbers.specs.Orders.{order_of}
use Rattle.numbers.specs.Laws.{Bytes}
use Rattle.kinds.specs.Kinds.{kind_of}
use Rattle.frames.specs.Frames.{rec_typ, rec_sub, body, is_record}
use Rattle.bodies.specs.Bodies.{read_body, fitting}
use Rattle.line_layouts.specs.declared.Layout.{Layout}
use Rattle.line_layouts.specs.declared.Layout.TheVariants as layout
use Rattle.line_layouts.specs.Columns.{separator, columns}
use Rattle.line_layouts.specs.Layouts.{laid_out}
use Rattle.line_layouts.specs.Names.{entry_allowed}
use Rattle.line_layouts.specs.Fitting.{all_given}
use Rattle.line_layouts.specs.Judging.{Judging, Says, Faulty}
use Rattle.line_records.specs.Records.{count_tag, meaning}
use Rattle.line_texts.specs.Texts.{line_meaning}
use Rattle.lines.specs.Writing.{line_written}
use Rattle.lines.specs.Reading.{line_read}

abbrev pub written_number : Result ℕ Answer → ℕ
written_number (Ok n) = 0
written_number (Err a) = number_of a

-- ---- the checks

-- 4 comes first: what is checked behind it is checked in the byte order that is told
abbrev pub order_first : Option Order → (Order → List (Check ℕ)) → List (Check ℕ)
order_first (Some order) checks = (true else 4) ∷ checks order
order_first None checks = (false else 4) ∷ []

-- 6, when writing text: PCR, HBR and SBR have a line; #103, WIR and WRR too
abbrev pub has_line : Option Tag → Bool
has_line (Some tag) = true
has_line None = false

-- 18: not one of these lines, which means nothing
abbrev pub is_said : Judging → Bool
is_said (Says m) = true
is_said (Faulty a) = false

-- #103, 21: a required time is 0; asked only of what means something
abbrev pub times_given : Judging → Bool
times_given (Says m) = all_given (columns m.tag) m.entries
times_given (Faulty a) = true

-- 19: names hold bytes 32 to 126 without `|`; asked likewise
abbrev pub names_allowed : Judging → Bool
names_allowed (Says m) = each (entry_allowed separator) m.entries
names_allowed (Faulty a) = true

-- 17: output too short at the offset; asked likewise
abbrev pub has_room : Layout → Judging → List ℕ → ℕ → Bool
has_room layout (Says m) old at = leb (at + length (laid_out layout m)) (length old)
has_room layout (Faulty a) old at = true

-- ---- their orders

abbrev pub write_checks : Order → List ℕ → List ℕ → ℕ → List (Check ℕ)
write_checks order s old at =
    let kind = kind_of (rec_typ s) (rec_sub s) in
    (is_record order s else 3)
    ∷ (has_line (count_tag kind) else 6)
    ∷ (fitting (read_body order kind (body s)) else 7)
    ∷ (times_given (meaning order s) else 21)
    ∷ (names_allowed (meaning order s) else 19)
    ∷ (has_room (layout.Text separator) (meaning order s) old at else 17)
    ∷ []

abbrev pub read_checks : Order → List ℕ → List ℕ → ℕ → List (Check ℕ)
read_checks order line old at =
    (is_said (line_meaning line) else 18)
    ∷ (has_room (layout.Record order) (line_meaning line) old at else 17)
    ∷ []

abbrev pub WriteNumber : Type 0
WriteNumber = (cpu : ℕ) (s old : List ℕ) (at : ℕ) → Bytes s
    → written_number (line_written cpu s old at).answer
    ≡ number_by (order_first (order_of cpu) (λ (order : Order). write_checks order s old at))

abbrev pub ReadNumber : Type 0
ReadNumber = (cpu : ℕ) (line old : List ℕ) (at : ℕ)
    → written_number (line_read cpu line old at).answer
    ≡ number_by (order_first (order_of cpu) (λ (order : Order). read_checks order line old at))
