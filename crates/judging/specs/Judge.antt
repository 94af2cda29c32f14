-- What a record does to a session. Document 01, "Order of checks", Deliver: the record.
--
--   judge    the first record of a stream, or a later one
--   judged   the verdict on a record and the session after it, of any session and any bytes
-- Assumes nothing.
use Rattle.std.specs.Prelude.{ℕ, cond, List}
use Rattle.answers.specs.declared.Answer.TheVariants.{NotSound}
use Rattle.session.specs.declared.Session.{Session}
use Rattle.session.specs.declared.Standing.{Standing}
use Rattle.session.specs.declared.Verdict.{Verdict}
use Rattle.session.specs.declared.Verdict.TheVariants.{Refused}
use Rattle.session.specs.Session.{is_start, sound}
use Rattle.settling.specs.Settling.{after}
use Rattle.first_record.specs.First.{judge_first}
use Rattle.later_records.specs.Later.{judge_later}
use Rattle.judging.specs.declared.Judged.{Judged}

unfoldable pub judge : Standing → List ℕ → List ℕ → Verdict
judge st cells rec = cond (is_start st.place) (judge_first st rec) (judge_later st cells rec)

-- what a session's own standing and cells make of a record
abbrev pub verdict_on : Session → List ℕ → Verdict
verdict_on s rec = judge s.standing s.parts rec

-- a session that is not sound is refused, 15, before its record is looked at
unfoldable pub judged : Session → List ℕ → Judged
judged s rec =
    cond (sound s)
    (record { verdict = verdict_on s rec; session = after s (verdict_on s rec) })
    (record { verdict = Refused NotSound; session = s })
