-- The later records of a stream. Document 01, "Order of checks", Later records.
--
--   judge_later   what each of them does to a session whose stream has begun; once it is in its place and fits its kind,
--                judge_said of kind_effects
-- Assumes nothing.
use Rattle.std.specs.Prelude.{ℕ, List}
use Rattle.prelude.specs.Choice.{◌unless◌then◌}
use Rattle.answers.specs.declared.Answer.TheVariants as answer
use Rattle.kinds.specs.Kinds.{kind_of, known}
use Rattle.frames.specs.Frames.{rec_typ, rec_sub, body, is_record}
use Rattle.bodies.specs.Bodies.{read_body, fitting, said_of}
use Rattle.order.specs.declared.Place.{Place}
use Rattle.order.specs.Order.{goes, in_place, place_after}
use Rattle.session.specs.declared.Standing.{Standing}
use Rattle.session.specs.declared.Verdict.{Verdict}
use Rattle.session.specs.declared.Verdict.TheVariants.{Refused}
use Rattle.kind_effects.specs.Effects.{judge_said}

abbrev pub at : Standing → Place → Standing
at st place = record st { place = place }

-- Later records: 3, 6, 8, 7, then what its kind asks by itself
unfoldable pub judge_later : Standing → List ℕ → List ℕ → Verdict
judge_later st cells rec =
    let kind = kind_of (rec_typ rec) (rec_sub rec) in
    let step = goes st.place kind in
    let reading = read_body st.order kind (body rec) in
    Refused answer.NotOneRecord unless is_record st.order rec then
    Refused answer.UnknownKind unless known kind then
    Refused answer.OutOfPlace unless in_place step then
    Refused answer.BodyMisfit unless fitting reading then
    judge_said (at st (place_after step)) cells (said_of reading)
