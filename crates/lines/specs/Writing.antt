-- Writing: from a record to its line. Document 01, "Count lines", Written, and orders of checks, Writing checks 4, 3,
-- 6, 7, 19, 17; #103, 21 after 7.
--
--   text_for       the text that a record makes, or what it is refused with
--   line_written   the outcome of writing: the answer, and every byte of the output
--   said_given, Gives   whether a field, and a line of this code, lacks nothing that text must give
-- Assumes nothing.
use Rattle.numbers.specs.declared.Order.{Order}
use Rattle.std.specs.Prelude.{◌≡◌, Bool, not, ◌&&◌, List, ℕ, Option, Some, None}
use Rattle.prelude.specs.Choice.{◌unless◌then◌}
use Rattle.prelude.specs.Each.{each}
use Rattle.answers.specs.declared.Answer.TheVariants.{UnknownOrder, NameNotText, NoTime}
use Rattle.numbers.specs.Orders.{order_of}
use Rattle.output.specs.Placed.{Making, Makes, Refuses, Outcome, placed}
use Rattle.line_layouts.specs.declared.Column.{Column}
use Rattle.line_layouts.specs.declared.Said.{Said}
use Rattle.line_layouts.specs.declared.Line.{Line}
use Rattle.line_layouts.specs.Columns.{separator, columns}
use Rattle.line_layouts.specs.Entries.{entries_of, is_missing}
use Rattle.line_layouts.specs.Layouts.{text_by}
use Rattle.line_layouts.specs.Names.{entry_allowed}
use Rattle.line_layouts.specs.Fitting.{all_given}
use Rattle.line_layouts.specs.Judging.{Judging, Says, Faulty}
use Rattle.line_records.specs.Records.{meaning}

-- #103, a required time of 0 is 21, after 7: of what fits, nothing else that text must give can be missing. Then 19;
-- the first argument is the separator
abbrev pub text_made : ℕ → Judging → Making
text_made sep (Says m) =
    Refuses NoTime unless all_given (columns m.tag) m.entries then
    Refuses NameNotText unless each (entry_allowed sep) m.entries then
    Makes (text_by sep m)
text_made sep (Faulty answer) = Refuses answer

-- 4 comes first
abbrev pub text_in : Option Order → List ℕ → Making
text_in (Some order) s = text_made separator (meaning order s)
text_in None s = Refuses UnknownOrder

abbrev pub text_for : ℕ → List ℕ → Making
text_for cpu s = text_in (order_of cpu) s

-- .. and 17 last
abbrev pub line_written : ℕ → List ℕ → List ℕ → ℕ → Outcome
line_written cpu s old at = placed (text_for cpu s) old at

-- ---- what is given, as this code holds it

abbrev pub said_given : Column → Said → Bool
said_given c f = not (is_missing f && c.required)

-- wherever the bytes that its fields name stand
pub record Gives (line : Line) (r : Bool) : Type 0 where
  pub all : (source : List ℕ) → r ≡ all_given (columns line.tag) (entries_of source line)
