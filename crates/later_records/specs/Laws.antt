-- What is shown of a later record: statements only, each proved in proofs/Checks.antt under its name in small letters.
--
--   later_checks   its order of checks, as a list, of what is known of the stream
-- Assumes nothing.
use Rattle.std.specs.Prelude.{◌≡◌, List, ◌∷◌, ℕ}
use Rattle.prelude.specs.Checks.{Check, ◌else◌, number_by}
use Rattle.numbers.specs.declared.Order.{Order}
use Rattle.kinds.specs.Kinds.{kind_of, known}
use Rattle.frames.specs.Frames.{rec_typ, rec_sub, body, is_record}
use Rattle.bodies.specs.Bodies.{read_body, fitting, said_of}
use Rattle.order.specs.declared.Place.{Place}
use Rattle.order.specs.Order.{goes, in_place}
use Rattle.session.specs.declared.Standing.{Standing}
use Rattle.session.specs.Verdicts.{verdict_number}
use Rattle.kind_effects.specs.Laws.{Seen, seen_of, own_checks}
use Rattle.later_records.specs.Later.{judge_later}

-- Later records: 3, 6, 8, 7, then what its kind asks by itself; room, 13, is the house's to judge, and last
abbrev pub later_checks : Order → Place → Seen → List ℕ → List (Check ℕ)
later_checks order place seen rec =
    let kind = kind_of (rec_typ rec) (rec_sub rec) in
    let reading = read_body order kind (body rec) in
    (is_record order rec else 3)
    ∷ (known kind else 6)
    ∷ (in_place (goes place kind) else 8)
    ∷ (fitting reading else 7)
    ∷ own_checks seen (said_of reading)

abbrev pub LaterNumber : Type 0
LaterNumber = (st : Standing) (cells rec : List ℕ)
    → verdict_number (judge_later st cells rec)
    ≡ number_by (later_checks st.order st.place (seen_of st cells) rec)
