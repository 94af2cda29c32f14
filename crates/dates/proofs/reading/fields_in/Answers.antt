-- `dates::reading::fields_in` meets its contract: field after field, the last first.
-- Assumes nothing.
use native.Mathlib.Omega.{arith}
use Rattle.dates.specs.Reading.{fields_in}
use Rattle.dates.proofs.reading.fields_in.Goals as goal

pub returns : goal.returns
unfolding fields_in
returns c = (
  rw (
    c.two_at-4.ensures.0,
    c.two_at-3.ensures.0,
    c.number_at-2.ensures.0,
    c.number_at.ensures.0,
    c.month_named.ensures.0,
    c.byte_at-3.ensures,
    c.byte_at-2.ensures,
    c.byte_at.ensures,
    c.two_at-2.ensures.0,
    c.two_at.ensures.0,
    c.place_of.ensures.0,
    c.byte_at-short_day.ensures,
    c.place_of-h.ensures.0,
    c.byte_at-short_hour.ensures,
  ),
  record {
    year = omega (arith, c.two_at.ensures.1, c.two_at-2.ensures.1);
    month = c.month_named.ensures.1;
    day = c.number_at.ensures.1;
    hour = c.number_at-2.ensures.1;
    minute = c.two_at-3.ensures.1;
    second = c.two_at-4.ensures.1;
  },
)
