-- Reading: from a line to its record. Document 01, "Count lines", Read, and orders of checks, reading 4, 18, 17.
--
--   record_for   the record that a line makes in a byte order, or what it is refused with
--   line_read    the outcome of reading: the answer, and every byte of the output
-- Assumes nothing.
use Rattle.std.specs.Prelude.{List, ℕ, Option, Some, None}
use Rattle.answers.specs.declared.Answer.TheVariants.{UnknownOrder}
use Rattle.numbers.specs.declared.Order.{Order}
use Rattle.numbers.specs.Orders.{order_of}
use Rattle.output.specs.Placed.{Making, Makes, Refuses, Outcome, placed}
use Rattle.line_layouts.specs.Layouts.{record_of}
use Rattle.line_layouts.specs.Judging.{Judging, Says, Faulty}
use Rattle.line_texts.specs.Texts.{line_meaning}

abbrev pub record_made : Order → Judging → Making
record_made order (Says m) = Makes (record_of order m)
record_made order (Faulty answer) = Refuses answer

-- 4 comes first
abbrev pub record_in : Option Order → List ℕ → Making
record_in (Some order) line = record_made order (line_meaning line)
record_in None line = Refuses UnknownOrder

abbrev pub record_for : ℕ → List ℕ → Making
record_for cpu line = record_in (order_of cpu) line

-- .. and 17 last
abbrev pub line_read : ℕ → List ℕ → List ℕ → ℕ → Outcome
line_read cpu line old at = placed (record_for cpu line) old at
