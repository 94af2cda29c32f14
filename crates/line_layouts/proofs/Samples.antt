-- The statements of specs/Samples.antt, by computation.
-- Assumes nothing.
use mathlib.Core.Path.{refl}
use Rattle.digits.specs.Digits.{digits}
use Rattle.months.specs.Months.{length_of, first_day, month_of}
use Rattle.dates.specs.Dates.{letter, text_of, date_text}
use Rattle.line_layouts.specs.Layouts.{laid}
use Rattle.line_layouts.specs.Samples.{SampleLines, SampleRecords}

pub sample_lines_lem : SampleLines
unfolding laid digits date_text text_of letter month_of first_day length_of
sample_lines_lem = refl

pub sample_records_lem : SampleRecords
unfolding laid
sample_records_lem = refl
