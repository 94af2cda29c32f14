-- A line as long as the longest of its tag: what is written of a meaning that fits has as many bytes as its text
-- (specs/Laws.antt, LongestLine).
-- Assumes nothing.
use Rattle.std.specs.Prelude.{Some, Ok}
use mathlib.Core.Path.{◌≡◌, refl, ap}
use mathlib.Core.List.{List}
use Prim.Native.Nat.{ℕ, ◌+◌, ◌≤◌}
use native.Mathlib.Omega.{arith}
use borrow.Author.Tests.{le-leb}
use lib.ListN.{length}
use Rattle.numbers.specs.declared.Order.{Order}
use Rattle.numbers.specs.Orders.{order_of}
use Rattle.digits.specs.Digits.{digits}
use Rattle.months.specs.Months.{length_of, first_day, month_of}
use Rattle.dates.specs.Dates.{letter, date_text}
use Rattle.dates.specs.Dates as dates
use Rattle.output.specs.Placed.{placed_at}
use Rattle.line_layouts.specs.declared.Tag.{Tag}
use Rattle.line_layouts.specs.declared.Tag.TheVariants.{Pcr, Hbr, Sbr, Wir, Wrr}
use Rattle.line_layouts.specs.Entries.{Meaning}
use Rattle.line_layouts.specs.Layouts.{laid, text_of, record_of}
use Rattle.line_layouts.specs.Fitting.{sits, Fitting}
use Rattle.line_layouts.specs.Names.{allowed}
use Rattle.lines.specs.Writing.{line_written}
use Rattle.lines.specs.Laws.{Writable, most_text, longest, LongestLine}
use Rattle.lines.proofs.Made.{record_read}

written_long : (cpu : ℕ) (order : Order) → order_of cpu ≡ Some order → (m : Meaning) → Fitting m
    → Writable m → (n : ℕ) → length (text_of m) ≡ n
    → (old : List ℕ) (at : ℕ) → at + n ≤ length old
    → (line_written cpu (record_of order m) old at).answer ≡ Ok n
unfolding placed_at
written_long cpu order is m fit ok n size old at room =
    rw (
      is,
      record_read order m fit,
      ok.0,
      ok.1,
      le-leb (at + length (text_of m)) (length old) (omega (arith, size)),
    )
    (ap Ok size)

longest_fits : (tag : Tag) → Fitting (longest tag)
unfolding longest sits
longest_fits Pcr = (refl, refl)
longest_fits Hbr = (refl, refl)
longest_fits Sbr = (refl, refl)
longest_fits Wir = (refl, refl)
longest_fits Wrr = (refl, refl)

longest_writable : (tag : Tag) → Writable (longest tag)
unfolding longest allowed
longest_writable Pcr = (refl, refl)
longest_writable Hbr = (refl, refl)
longest_writable Sbr = (refl, refl)
longest_writable Wir = (refl, refl)
longest_writable Wrr = (refl, refl)

longest_size : (tag : Tag) → length (text_of (longest tag)) ≡ most_text tag
unfolding longest laid digits date_text dates.text_of letter month_of first_day length_of
longest_size Pcr = refl
longest_size Hbr = refl
longest_size Sbr = refl
longest_size Wir = refl
longest_size Wrr = refl

pub longest_line : LongestLine
longest_line tag cpu order is old at room =
    written_long cpu order is (longest tag) (longest_fits tag) (longest_writable tag) (most_text tag) (longest_size tag)
    old at room
