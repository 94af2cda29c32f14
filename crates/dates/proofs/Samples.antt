-- The samples, by computation.
-- Assumes nothing.
use mathlib.Core.Path.{refl}
use Rattle.digits.specs.Digits.{digits}
use Rattle.months.specs.Months.{length_of, first_day, month_of}
use Rattle.dates.specs.Dates.{letter, text_of, date_text}
use Rattle.dates.specs.Reading.{month_named, fields_in, read_as, date_of}
use Rattle.dates.specs.Samples.{SamplesWritten, SamplesRead, OthersRefused}

pub samples_written : SamplesWritten
unfolding date_text text_of digits letter month_of first_day length_of
samples_written = refl

pub samples_read : SamplesRead
unfolding date_of read_as fields_in month_named date_text text_of digits letter month_of first_day length_of
samples_read = refl

pub others_refused : OthersRefused
unfolding date_of read_as fields_in month_named date_text text_of digits letter month_of first_day length_of
others_refused = refl
