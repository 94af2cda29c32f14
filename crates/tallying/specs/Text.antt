-- What is written at the end of a stream. Document 01, "Tally program".
--
--   report_lines   a line for each row of slot 0's report
--   left_over      what bytes are refused with that are no whole record
--   ended         the text of a stream that was followed so far and goes no further
--   tally_text     the whole program: the text of all bytes
-- Assumes nothing.
use Rattle.std.specs.Prelude.{ℕ, zero, suc, ◌+◌, Bool, true, false, cond, List, [], ◌∷◌, ◌++◌, Option, Some, None}
use Rattle.answers.specs.declared.Answer.{Answer}
use Rattle.answers.specs.declared.Answer.TheVariants.{NotOneRecord}
use Rattle.order.specs.Laws.{ended as is_ended}
use Rattle.session.specs.Session.{is_start}
use Rattle.house.specs.declared.House.{House}
use Rattle.house.specs.House.{row_count}
use Rattle.house.specs.Calls.{deliver}
use Rattle.house.specs.Report.{row_at, reported}
use Rattle.tally_lines.specs.Lines.{row_line, refused_line, too_long_line, unfinished_line}
use Rattle.walking.specs.declared.Stop.{Stop}
use Rattle.walking.specs.declared.Stop.TheVariants.{Refused, TooLong}
use Rattle.following.specs.Following.{Progress, standing, followed, begun}

-- after an accepted MRR, one HBR line for each row in report order
unfoldable pub row_lines : House → ℕ → List ℕ
row_lines h zero = []
row_lines h (suc i) = row_lines h i ++ row_line (row_at h 0 i)

abbrev pub report_lines : House → List ℕ
report_lines h = row_lines h (reported h 0 row_count).rows

-- bytes left over are N=3; but the first record is all bytes, where they are fewer than six
abbrev pub left_over : House → List ℕ → Answer
left_over h bytes = cond (is_start (standing h).place) (deliver h 0 bytes).answer NotOneRecord

-- after an accepted MRR at the end, the rows
abbrev pub closing : House → ℕ → Bool → List ℕ
closing h k true = report_lines h
closing h k false = unfinished_line k

abbrev pub ended_with : House → ℕ → List ℕ → List ℕ
ended_with h k [] = closing h k (is_ended (standing h).place)
ended_with h k (b ∷ bs) = refused_line (left_over h (b ∷ bs)) (k + 1)

-- what stopped a stream, at its record k
abbrev pub stopped_line : Stop → ℕ → List ℕ
stopped_line (Refused a) k = refused_line a k
stopped_line TooLong k = too_long_line k

-- K from 1: the record behind those accepted
abbrev pub ended_by : Option Stop → Progress → List ℕ
ended_by None p = ended_with p.house p.accepted p.held
ended_by (Some why) p = stopped_line why (p.accepted + 1)

unfoldable pub ended : Progress → List ℕ
ended p = ended_by p.fate p

-- reads one STDF stream
abbrev pub tally_text : List ℕ → List ℕ
tally_text bytes = ended (followed begun bytes)
